-- `judge_columns::all_carried` meets its contract.
use Rattle.std.proofs.Common.{◌∙◌, arith}
use Rattle.judge_columns.proofs.Runs.{carried_run}
use Rattle.judge_columns.proofs.all_carried.Goals as goal

pub returns : goal.returns
returns c =
    (rw (c.words.ensures.value, c.words-2.ensures.value) at c.same.ensures)
    ∙ carried_run _ _ _ _ _ (omega (arith, c.words.ensures.size)) (omega (arith, c.words-2.ensures.size)) c.words.ensures.canonical c.words-2.ensures.canonical
