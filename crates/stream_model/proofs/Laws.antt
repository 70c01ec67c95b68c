-- How the steps go through the definitions of specs/.
use mathlib.Core.Path.{◌≡◌, refl, ap}
use mathlib.Core.Bool.{Bool, true, false, cond}
use mathlib.Core.List.{List, ◌++◌}
use Prim.Native.Nat.{ℕ, zero, suc, ◌<◌}
use lib.ListN.{length, drop}
use lib.Dec.{eqb, lit<}
use Rattle.algebra.specs.Prime.{p}
use Rattle.algebra.specs.Lists.{All}
use Rattle.rulebook.proofs.Pair.{values-canonical}
use Rattle.run_pairs.specs.Run.{first_weight}
use Rattle.table.specs.Cells.{Cell, local, next, mask_at, z_last, lagrange_basis_first, cells}
use Rattle.table.specs.Rows.{Row, Masks}
use Rattle.table.specs.Table.{pair_values}
use Rattle.words.specs.Words.{words}
use Rattle.stream_model.specs.Model.{Stepped}

-- what holds in both cases of a test
pub by_cases : {A : Type 0} (P : A → Type 0) (b : Bool) {x y : A} → (b ≡ true → P x) → (b ≡ false → P y) → P (cond b x y)
by_cases P true f g = f refl
by_cases P false f g = g refl

-- a step behind what was printed before
abbrev pub behind : List ℕ → Stepped → Stepped
behind before t = record { state = t.state; text = before ++ t.text }

pub words-length : (k : ℕ) (b : List ℕ) → length (words k b) ≡ k
unfolding words
words-length zero b = refl
words-length (suc k) b = ap suc (words-length k (drop 8 b))

pub first_below : (i w : ℕ) → w ≡ first_weight i → w < p
first_below i w e = rw e (by_cases (λ (n : ℕ). n < p) (eqb i 0) (λ _. lit< tt) (λ _. lit< tt))

-- the values of a pair are canonical where masks, rows and weights are
pub pair-canonical : {masks lv nv : List ℕ} {z f : ℕ} → Masks masks → Row lv → Row nv → z < p → f < p
    → All (λ v. v < p) (pair_values masks lv nv z f)
pair-canonical {masks} {lv} {nv} {z} {f} m l n lz lf = values-canonical masks lv nv z f below
  where
    below : (c : Cell) → cells masks lv nv z f c < p
    below (local c) = l.below c
    below (next c) = n.below c
    below (mask_at i) = m.below i
    below z_last = lz
    below lagrange_basis_first = lf
