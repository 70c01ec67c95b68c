-- `edges::folds::worked` meets its contract.
use mathlib.Core.Path.{ap, ◌∙◌}
use mathlib.Core.List.{List}
use Prim.Native.Nat.{ℕ}
use lib.ListN.{get_or}
use borrow.Author.Tests.{eq-eqb}
use Rattle.worked.proofs.Worked.{worked as worked_pairs}
use Rattle.edges.proofs.folds.worked.Goals as goal

pub expect-requires : goal.expect-requires
expect-requires c = eq-eqb _ _ (ap (λ (l : List ℕ). get_or l 0 0) (c.pair_fold.ensures.accumulators ∙ worked_pairs.zero_row_folds))

pub expect-requires-2 : goal.expect-requires-2
expect-requires-2 c = eq-eqb _ _ (ap (λ (l : List ℕ). get_or l 1 0) (c.pair_fold.ensures.accumulators ∙ worked_pairs.zero_row_folds))

pub expect-requires-3 : goal.expect-requires-3
expect-requires-3 c = eq-eqb _ _ (ap (λ (l : List ℕ). get_or l 2 0) (c.pair_fold.ensures.accumulators ∙ worked_pairs.zero_row_folds))
