-- `judge_columns::chosen_equal` meets its contract.
use Rattle.std.proofs.Common.{◌∙◌, arith}
use Rattle.judge_columns.proofs.Runs.{chosen_run, chosen_current}
use Rattle.judge_columns.proofs.chosen_equal.Goals as goal

pub returns-clause-next : goal.returns-clause-next
returns-clause-next c =
    (rw (c.words.ensures.value, c.words-2.ensures.value) at c.chosen.ensures)
    ∙ chosen_run _ _ _ 16 10 (omega (arith, c.words.ensures.size)) (omega (arith, c.words-2.ensures.size)) c.words.ensures.canonical c.words-2.ensures.canonical _

pub returns-clause-current : goal.returns-clause-current
returns-clause-current c = λ e.
    (rw e at (returns-clause-next c)) ∙ chosen_current c.args.row.now c.args.s c.args.o
