-- `judge_columns::all_off` meets its contract.
use Rattle.std.proofs.Common.{◌∙◌, arith}
use Rattle.judge_columns.proofs.Runs.{off_run}
use Rattle.judge_columns.proofs.all_off.Goals as goal

pub returns : goal.returns
returns c = (rw c.words.ensures.value at c.zeros.ensures) ∙ off_run _ _ _ (omega (arith, c.words.ensures.size)) c.words.ensures.canonical
