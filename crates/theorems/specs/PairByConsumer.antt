-- A pair folded into a consumer, beside the fold entry and beside the constraints one by one (document 02, 2/12).
use Rattle.std.specs.Prelude.{◌≡◌, List, ℕ, ◌+◌, take}
use Rattle.table.specs.Cells.{cells}
use Rattle.table.specs.Table.{table}
use Rattle.consumer.specs.declared.ConstraintConsumer.{ConstraintConsumer}
use Rattle.pair_fold_checks.specs.PairFold.{pair_fold_refusal, pair_fold_accumulators}
use Rattle.consumer_history.specs.Yielded.{taken_all, yielded}

-- the consumer before it takes the pair and after it: masks, current row, next row
pub record PairByConsumer (masks lv nv : List ℕ) (before after : ConstraintConsumer) : Type 0 where
  -- the fold entry, called with the consumer's own weights and what it has in use, is not turned back, and leaves the
  -- consumer's accumulators
  pub folds : pair_fold_refusal masks lv nv before.z_last before.lagrange_basis_first
      (take before.count before.alphas) (take before.count before.constraint_accs) ≡ 0
  pub accumulators : take after.count after.constraint_accs
      ≡ pair_fold_accumulators masks lv nv before.z_last before.lagrange_basis_first
      (take before.count before.alphas) (take before.count before.constraint_accs)
  -- the count grows by 226
  pub count : after.folded ≡ before.folded + 226
  -- it is the consumer that takes the 226 constraints one after the other, each in the call of its kind
  pub constraints : after
      ≡ taken_all before (yielded (cells masks lv nv before.z_last before.lagrange_basis_first) table)
