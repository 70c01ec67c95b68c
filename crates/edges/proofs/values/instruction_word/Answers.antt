-- `edges::values::instruction_word` meets its contract.
use mathlib.Core.Path.{◌∙◌}
use borrow.Author.Tests.{eq-eqb}
use Rattle.edges.proofs.Answers.{instruction_word_written}
use Rattle.edges.proofs.values.instruction_word.Goals as goal

pub expect-requires : goal.expect-requires
expect-requires c = eq-eqb _ _ (c.value.ensures ∙ instruction_word_written)
