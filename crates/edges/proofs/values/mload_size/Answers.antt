-- `edges::values::mload_size` meets its contract.
use mathlib.Core.Path.{◌∙◌}
use borrow.Author.Tests.{eq-eqb}
use Rattle.edges.proofs.Answers.{mload_written}
use Rattle.edges.proofs.values.mload_size.Goals as goal

pub expect-requires : goal.expect-requires
expect-requires c = eq-eqb _ _ (c.value.ensures ∙ mload_written)
