-- `judge_columns::all_bits` meets its contract.
use Rattle.std.proofs.Common.{◌∙◌, arith}
use Rattle.judge_columns.proofs.Runs.{bits_run, bit_run}
use Rattle.judge_columns.proofs.all_bits.Goals as goal

pub returns-clause-value : goal.returns-clause-value
returns-clause-value c = (rw c.words.ensures.value at c.bits.ensures) ∙ bits_run _ _ _ (omega (arith, c.words.ensures.size))

pub returns-clause-rule : goal.returns-clause-rule
returns-clause-rule c = (rw c.words.ensures.value at c.bits.ensures) ∙ bit_run _ _ _ (omega (arith, c.words.ensures.size)) c.words.ensures.canonical
