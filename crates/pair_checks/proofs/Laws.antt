-- The buffer of a call for the values of a pair.
use mathlib.Core.Path.{◌≡◌, ap, ◌∙◌}
use mathlib.Core.List.{List, ◌++◌, append-nil}
use Prim.Native.Nat.{ℕ}
use native.Mathlib.Omega.{arith}
use lib.ListN.{length, drop_of_length-le}
use borrow.Author.Tests.{eq-eqb}
use Rattle.table.specs.Table.{pair_values}
use Rattle.pair_checks.specs.PairValues.{pair_values_refusal, pair_values_buffer}

module _ (masks lv nv : List ℕ) (z f : ℕ) (out : List ℕ) where
  -- of 226 places
  pub values_written : length out ≡ 226 → pair_values_refusal masks lv nv z f (length out) ≡ 0 → pair_values_buffer masks lv nv z f out ≡ pair_values masks lv nv z f
  unfolding pair_values_buffer
  values_written l h =
      simp (eq-eqb _ _ h)
      (ap (λ (x : List ℕ). pair_values masks lv nv z f ++ x) (drop_of_length-le out {i = 226} (omega arith)) ∙ append-nil _)
