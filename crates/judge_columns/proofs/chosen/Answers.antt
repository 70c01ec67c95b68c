-- `judge_columns::chosen` meets its contract.
use Rattle.std.proofs.Common.{◌+◌, ◌-◌, ◌&&◌, ◌||◌, not, true, take, drop, get_or, eqb, rules, tests, ◌∙◌}
use Rattle.std.proofs.lemmas.Iterator.Consumers.{fold_from_yields_List}
use Rattle.std.proofs.lemmas.Iterator.{YieldsList-from_slice, YieldsList-from_zip}
use Rattle.judge_columns.proofs.Runs.{pairs_folded}
use Rattle.judge_columns.proofs.chosen.Goals as goal

pub returns : goal.returns
returns c =
    fold_from_yields_List _ (λ all e. all && (not (eqb e.0 1) || eqb e.1 (get_or c.args.row.now c.args.o 0))) true _ c.fold.ensures.ran
    (YieldsList-from_zip
    (YieldsList-from_slice (take (c.args.s + 10 - c.args.s) (drop c.args.s c.args.row.now)) cc)
    (YieldsList-from_slice (take 10 (drop 16 c.args.regs.now)) cc))
    (λ a x b q k. search (rules, tests))
    ∙ pairs_folded (λ e. not (eqb e.0 1) || eqb e.1 (get_or c.args.row.now c.args.o 0)) c.args.row.now c.args.s c.args.regs.now 16 10
