-- `judge_columns::bits` meets its contract.
use Rattle.std.proofs.Common.{◌+◌, ◌-◌, ◌&&◌, ◌||◌, true, take, drop, eqb, rules, tests, ◌∙◌}
use Rattle.std.proofs.lemmas.Iterator.Consumers.{fold_from_yields_List}
use Rattle.std.proofs.lemmas.Iterator.{YieldsList-from_slice}
use Rattle.judge_columns.proofs.Runs.{part_folded}
use Rattle.judge_columns.proofs.bits.Goals as goal

pub returns : goal.returns
returns c =
    fold_from_yields_List _ (λ all x. all && (eqb x 0 || eqb x 1)) true _ c.fold.ensures.ran (YieldsList-from_slice (take (c.args.start + c.args.n - c.args.start) (drop c.args.start c.args.row.now)) cc) (λ a x b q k. search (rules, tests))
    ∙ part_folded (λ x. eqb x 0 || eqb x 1) c.args.row.now c.args.start c.args.n
