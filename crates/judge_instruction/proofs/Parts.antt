-- A part of the instruction word, term by term.
use Prim.Native.Nat.{ℕ, zero, suc, ◌+◌, ◌-◌, ◌*◌, ◌%◌, ◌^◌, ◌≤◌, ◌<◌}
use native.Mathlib.Nat.{one-mul, mod-lt}
use native.Mathlib.Numerals.{add-one}
use native.Mathlib.Omega.{arith}
use mathlib.Core.Path.{◌≡◌, refl, ap, ◌∙◌}
use mathlib.Core.List.{List, [], ◌∷◌}
use lib.ListN.{length, get_or, take, drop}
use lib.Dec.{lit<}
use lib.Pow.{shl_exact}
use Rattle.std.specs.List.{fold, zip, range_with_len}
use Rattle.algebra.specs.Prime.{p}
use Rattle.algebra.specs.Expr.{Expr, con, ◌⊗◌, eval}
use Rattle.residue.specs.Residues.{residues, add_p, mul_p}
use Rattle.residue.proofs.Laws.{add_p_comm}
use Rattle.table.specs.Cells.{Cell, local, cells, lv}
use Rattle.table.specs.Entry.{plus_all, sum}
use Rattle.rulebook.specs.Rulebook.{word_part}
use Rattle.judge_columns.proofs.Runs.{part-length, part_at}

-- `1 << k` at 64 bits, which the machine has as a product cut to 64 bits, is 2 ^ k
one_shl : (k : ℕ) → k < 64 → (1 * 2 ^ k) % 2 ^ 64 ≡ 2 ^ k
one_shl k h =
    let l : 1 + k ≤ 64 = omega arith in
    shl_exact {a = 1} 1 k 64 (lit< tt) l ∙ one-mul (2 ^ k)

-- a fold over selectors, each beside its place in the word
module _ (x : Cell → ℕ) (s shift : ℕ) where
  abbrev term : ℕ → Expr Cell
  term j = lv (s + j) ⊗ con (2 ^ (shift + j))

  abbrev pub with_term : ℕ → ℕ × ℕ → ℕ
  with_term word e = add_p (mul_p e.0 ((1 * 2 ^ e.1) % 2 ^ 64)) word

  word_more : (i place word selector : ℕ) → place ≡ shift + i → shift + i < 64 → word ≡ eval residues x (sum term i) → selector ≡ x (local (s + i)) →
      with_term word (selector, place) ≡ eval residues x (sum term (i + 1))
  unfolding eval plus_all
  word_more i place word selector q h e d = rw (add-one, q, one_shl (shift + i) h, e, d) (add_p_comm _ _)

  word_from : (i n place word : ℕ) (selectors : List ℕ) → place ≡ shift + i → length selectors ≡ n → shift + (i + n) ≤ 64 →
      ((k : ℕ) → k < n → get_or selectors k 0 ≡ x (local (s + (i + k)))) → word ≡ eval residues x (sum term i) →
      fold with_term word (zip selectors (range_with_len place n)) ≡ eval residues x (sum term (i + n))
  word_from i zero place word [] q l h give e = e ∙ ap (λ (k : ℕ). eval residues x (sum term k)) (omega arith)
  word_from i (suc n) place word [] q l h give e = absurd (omega (arith, l))
  word_from i zero place word (v ∷ vs) q l h give e = absurd (omega (arith, l))
  word_from i (suc n) place word (v ∷ vs) q l h give e =
      word_from (i + 1) n (place + 1) (with_term word (v, place)) vs (omega (arith, q)) (omega (arith, l)) (omega arith)
      (λ k t. give (suc k) (omega arith) ∙ ap (λ (j : ℕ). x (local (s + j))) (omega arith))
      (word_more i place word v q (omega arith) e (give zero (omega arith) ∙ ap (λ (j : ℕ). x (local (s + j))) (omega arith)))
      ∙ ap (λ (k : ℕ). eval residues x (sum term k)) (omega arith)

-- ten selectors of a row
module _ (row : List ℕ) (s shift : ℕ) (h : s + 10 ≤ length row) (g : shift + 10 ≤ 64) where
  pub word_folded : fold (with_term (cells [] row [] 0 0) s shift) 0 (zip (take (s + 10 - s) (drop s row)) (range_with_len shift 10))
      ≡ eval residues (cells [] row [] 0 0) (word_part s shift)
  unfolding eval plus_all
  word_folded =
      let e : s + 10 - s ≡ 10 = omega arith in
      rw e
      (word_from (cells [] row [] 0 0) s shift 0 10 shift 0 (take 10 (drop s row)) (omega arith) (part-length row s 10 h) (omega arith)
      (λ k t. part_at row s 10 h k t ∙ ap (λ (j : ℕ). get_or row (s + j) 0) (omega arith)) refl)

  pub word_below : eval residues (cells [] row [] 0 0) (word_part s shift) < p
  unfolding eval plus_all add_p
  word_below = mod-lt _ (lit< tt)
