-- Values that a consumer folds one after the other.
use mathlib.Core.Path.{◌≡◌, sym, ap, ap₂}
use mathlib.Core.List.{List, [], ◌∷◌, ◌++◌}
use Prim.Native.Nat.{ℕ, ◌+◌}
use native.Mathlib.Omega.{arith}
use lib.ListN.{length-append}
use Rattle.accumulators.proofs.Folds.{accumulated-is, folds-none, folds-append}
use Rattle.consumer.specs.declared.ConstraintConsumer.{ConstraintConsumer}
use Rattle.consumer.specs.Consumer.{with_value, with_values}

module _ (c : ConstraintConsumer) where
  -- the same consumer with other accumulators and another count of values
  abbrev other : List ℕ → ℕ → ConstraintConsumer
  other accs n =
      record {
        alphas = c.alphas;
        constraint_accs = accs;
        count = c.count;
        z_last = c.z_last;
        lagrange_basis_first = c.lagrange_basis_first;
        lagrange_basis_last = c.lagrange_basis_last;
        folded = n;
      }

  -- no value, one value, and values behind others
  pub values-none : c ≡ with_values c []
  values-none = ap₂ other (sym (folds-none c.count c.alphas c.constraint_accs)) (omega arith)

  pub value-is : (v : ℕ) → with_value c v ≡ with_values c (v ∷ [])
  value-is v = ap (λ (accs : List ℕ). other accs (c.folded + 1)) (accumulated-is c.count c.alphas c.constraint_accs v)

  pub values-append : (vs ws : List ℕ) → with_values (with_values c vs) ws ≡ with_values c (vs ++ ws)
  values-append vs ws =
      ap₂ other (sym (folds-append c.count c.alphas c.constraint_accs vs ws)) (omega (arith, length-append vs ws))
