-- `edges::values::zero_row` meets its contract.
use mathlib.Core.Path.{ap, ◌∙◌}
use mathlib.Core.List.{List}
use Prim.Native.Nat.{ℕ}
use lib.ListN.{get_or}
use borrow.Author.Tests.{eq-eqb}
use Rattle.tally.specs.Tally.{nonzeros}
use Rattle.edges.proofs.Answers.{zero-row_written}
use Rattle.edges.proofs.values.zero_row.Goals as goal

pub expect-requires : goal.expect-requires
expect-requires c = eq-eqb _ _ (c.value.ensures ∙ ap (λ (l : List ℕ). get_or l 103 0) zero-row_written)

pub expect-requires-2 : goal.expect-requires-2
expect-requires-2 c = eq-eqb _ _ (c.value-2.ensures ∙ ap (λ (l : List ℕ). get_or l 147 0) zero-row_written)

pub expect-requires-3 : goal.expect-requires-3
unfolding nonzeros
expect-requires-3 c = eq-eqb _ _ (c.nonzero.ensures ∙ ap nonzeros zero-row_written)
