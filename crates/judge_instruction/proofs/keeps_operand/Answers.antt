-- `judge_instruction::keeps_operand` meets its contract.
-- Kept: with the attribute that opens the rules, and `bools`, the check proves neither clause.
use mathlib.Core.Path.{sym, ◌∙◌}
use Rattle.judge_columns.proofs.Rules.{keeps, rules, chains, counts, exprs}
use Rattle.judge_columns.proofs.Told.{tells}
use Rattle.judge_instruction.proofs.keeps_operand.Goals as goal

pub returns-clause-next : goal.returns-clause-next
returns-clause-next c =
    sym (keeps _ _ _ _ _ ∙
    search (c.off-main.ensures, c.all_bits.ensures.rule, rw c.words.ensures.value at c.ones.ensures, c.chosen_equal.ensures.next, tells, rules, chains, counts, exprs)
    depth 100 fits 100000)

pub returns-clause-current : goal.returns-clause-current
returns-clause-current c = λ e.
    sym (keeps _ _ _ _ _ ∙
    search (c.off-main.ensures, c.all_bits.ensures.rule, rw c.words.ensures.value at c.ones.ensures, c.chosen_equal.ensures.current e, tells, rules, chains, counts, exprs)
    depth 100 fits 100000)
