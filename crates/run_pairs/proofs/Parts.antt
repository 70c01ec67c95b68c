-- The rows of a run that is not turned back, and its masks, are as their types ask.
use mathlib.Core.Path.{◌≡◌}
use mathlib.Core.Bool.{false, not}
use mathlib.Core.List.{List, [], ◌∷◌}
use Prim.Native.Nat.{ℕ, ◌+◌, ◌-◌, ◌*◌, ◌%◌, ◌≤◌, ◌<◌}
use native.Mathlib.Omega.{arith}
use lib.ListN.{length, take, drop, length-take, length-drop}
use lib.Dec.{eqb, ltb}
use borrow.Author.Tests.{eqb-false, not-false}
use Rattle.refusals.specs.Refusal.{run_length, mask_count, mask_contents, row_contents}
use Rattle.refusals.proofs.Laws.{Clear, clear, length-is, none_true, canonical-part, canonical-below}
use Rattle.table.specs.Rows.{Row, Masks}
use Rattle.checks.proofs.Laws.{accepted-masks}
use Rattle.rulebook.specs.Plain.{Accepted}
use Rattle.run_pairs.specs.Run.{row_at, row_count, run_refusal}

-- `&run[94 * i..94 * i + 94]`
pub row_part : (run : List ℕ) (i : ℕ) → take (94 * i + 94 - 94 * i) (drop (94 * i) run) ≡ row_at run i
unfolding row_at
row_part run i =
    let e : 94 * i + 94 - 94 * i ≡ 94 = omega arith in
    rw e

-- a run that is not turned back
module _ (run masks : List ℕ) (e : run_refusal run masks ≡ 0) where
  pub clears : Clear (run_length run ∷ mask_count masks ∷ mask_contents masks ∷ row_contents run ∷ [])
  unfolding run_refusal
  clears = clear (run_length run ∷ mask_count masks ∷ mask_contents masks ∷ row_contents run ∷ []) tt e

  -- it is whole rows, and one at least
  whole : (not (eqb (length run % 94) 0) ≡ false) × (eqb (length run) 0 ≡ false)
  whole = none_true _ _ (none_true _ (ltb 65536 (row_count run)) clears.0).0

  run_is : length run ≡ 94 * row_count run
  run_is =
      let r : length run % 94 ≡ 0 = length-is _ _ whole.0 in
      omega arith

  pub some-row : 0 < row_count run
  some-row =
      let h : length run ≡ 0 → ⊥ = eqb-false _ _ whole.1 in
      omega (arith, run_is)

  pub accepted : Accepted masks
  accepted =
      let k = none_true _ _ clears.1.1.0 in
      record { size = length-is _ _ clears.1.0; below = not-false _ k.0; differ = not-false _ k.1 }

  pub masks-are : Masks masks
  masks-are = accepted-masks masks accepted.size clears.1.1.0

  -- a part of 94 values is a row
  row_from : (k : ℕ) → k + 94 ≤ length run → Row (take 94 (drop k run))
  row_from k h = record {
    size = simp (length-take, length-drop) (omega arith);
    below = canonical-below _ (canonical-part k 94 run (not-false _ clears.1.1.1.0));
  }

  pub row_is : (i : ℕ) → i < row_count run → Row (row_at run i)
  unfolding row_at
  row_is i h = row_from (94 * i) (omega (arith, run_is))
