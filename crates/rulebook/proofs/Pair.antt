-- What accepted masks, canonical rows and canonical weights make of a pair's cells, and of the table.
use mathlib.Core.Path.{◌≡◌, refl, sym, ◌∙◌}
use mathlib.Core.Logic.{◌≢◌}
use mathlib.Core.Bool.{Bool, true, false, not, ◌||◌, true≢false}
use mathlib.Core.List.{List, [], ◌∷◌}
use Prim.Native.Nat.{ℕ, zero, suc, ◌<◌}
use native.Mathlib.Nat.{le_of_suc-le-suc, not-suc-le-zero}
use native.Mathlib.Omega.{arith}
use lib.ListN.{length, length-map, get_or, take}
use lib.Seq.{get_or-take, length-take-le}
use lib.Dec.{eqb, ltb}
use borrow.Author.Tests.{eq-eqb, not-true}
use Rattle.algebra.specs.Prime.{p}
use Rattle.algebra.specs.Lists.{All}
use Rattle.refusals.specs.Refusal.{member, distinct}
use Rattle.refusals.proofs.Laws.{canonical-below}
use Rattle.table.specs.Cells.{Cell, local, next, mask_at, z_last, lagrange_basis_first, cells}
use Rattle.table.specs.Rows.{Row}
use Rattle.table.specs.Entry.{Entry, weighted_by, values}
use Rattle.table.specs.Table.{table, pair_values}
use Rattle.table.proofs.Numbers.{table-length}
use Rattle.residue.specs.Residues.{residues}
use Rattle.rulebook.specs.Kind.{ones}
use Rattle.rulebook.specs.Plain.{bits, plain_flags, Accepted, pair_plain}
use Rattle.rulebook.proofs.Tests.{and_left, and_right, or_left, all}
use Rattle.rulebook.proofs.Cells.{line}
use Rattle.rulebook.proofs.Open.{open_table}
use Rattle.rulebook.proofs.Arithmetic.{Differ}
use Rattle.rulebook.proofs.Weights.{reads_rows, fair, value-lt}

-- every entry of the table reads rows and masks only, and has a canonical value
pub fair_table : all fair table ≡ true
unfolding open_table
fair_table = refl

-- how many values a pair has, and that each is canonical where its cells are
module _ (masks lv nv : List ℕ) (z f : ℕ) where
  pub values_count : length (pair_values masks lv nv z f) ≡ 226
  unfolding pair_values values
  values_count = length-map table _ ∙ table-length

  module _ (canon : (c : Cell) → cells masks lv nv z f c < p) where
    values-below : (es : List Entry) → all fair es ≡ true → All (λ v. v < p) (values residues (cells masks lv nv z f) es)
    unfolding values
    values-below [] h = tt
    values-below (e ∷ es) h = (
      value-lt (cells masks lv nv z f) (cells masks lv nv z f) (λ c k. refl) canon (weighted_by e.kind e.expr)
          (and_right (reads_rows e.expr) _ (and_left (fair e) (all fair es) h)),
      values-below es (and_right (fair e) _ h),
    )

    pub values-canonical : All (λ v. v < p) (pair_values masks lv nv z f)
    unfolding pair_values
    values-canonical = values-below table fair_table

-- distinct numbers differ at any two places
not-member : (a : ℕ) (l : List ℕ) → member a l ≡ false → (j : ℕ) → j < length l → a ≢ get_or l j 0
not-member a [] h j l e = not-suc-le-zero l
not-member a (b ∷ bs) h zero l e = true≢false (sym (or_left _ _ (eq-eqb a b e)) ∙ h)
not-member a (b ∷ bs) h (suc j) l e = not-member a bs (rest (eqb a b) (member a bs) h) j (le_of_suc-le-suc l) e
  where
    rest : (c d : Bool) → (c || d) ≡ false → d ≡ false
    rest true d k = absurd (true≢false k)
    rest false d k = k

distinct_apart : (l : List ℕ) → distinct l ≡ true → (i j : ℕ) → i < j → j < length l → get_or l i 0 ≢ get_or l j 0
unfolding distinct
distinct_apart [] h i j u v = absurd (not-suc-le-zero v)
distinct_apart (a ∷ l) h i zero u v = absurd (not-suc-le-zero u)
distinct_apart (a ∷ l) h zero (suc j) u v = not-member a l (not-true _ (and_left _ _ h)) j (le_of_suc-le-suc v)
distinct_apart (a ∷ l) h (suc i) (suc j) u v =
    distinct_apart l (and_right (not (member a l)) _ h) i j (le_of_suc-le-suc u) (le_of_suc-le-suc v)

module _ (masks lv nv : List ℕ) where
  abbrev pub pair : Cell → ℕ
  pair = cells masks lv nv 0 0

  pub plain-is : pair_plain lv nv ≡ plain_flags pair
  unfolding pair_plain plain_flags bits ones
  plain-is = refl

  pub same_rows : (z f : ℕ) (c : Cell) → ltb (line c) 3 ≡ true → pair c ≡ cells masks lv nv z f c
  same_rows z f (local c) h = refl
  same_rows z f (next c) h = refl
  same_rows z f (mask_at i) h = refl
  same_rows z f z_last h = absurd (true≢false (sym h))
  same_rows z f lagrange_basis_first h = absurd (true≢false (sym h))

  module _ (accepted : Accepted masks) where
    pub masks-differ : Differ pair
    masks-differ i j u v e =
        let five : length (take 5 masks) ≡ 5 = length-take-le 5 masks (omega (arith, accepted.size)) in
        let w : i < 5 = omega arith in
        distinct_apart (take 5 masks) accepted.differ i j u (omega arith) (rw (get_or-take 5 masks i 0, get_or-take 5 masks j 0) e)

    module _ (row : Row lv) (next_row : Row nv) where
      pub canonical-cells : (z f : ℕ) → z < p → f < p → (c : Cell) → cells masks lv nv z f c < p
      canonical-cells z f lz lf (local c) = row.below c
      canonical-cells z f lz lf (next c) = next_row.below c
      canonical-cells z f lz lf (mask_at i) = canonical-below masks accepted.below i
      canonical-cells z f lz lf z_last = lz
      canonical-cells z f lz lf lagrange_basis_first = lf
