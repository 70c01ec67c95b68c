-- `judge_columns::same` meets its contract.
use Rattle.std.proofs.Common.{◌+◌, ◌-◌, ◌&&◌, true, take, drop, eqb, rules, tests, ◌∙◌}
use Rattle.std.proofs.lemmas.Iterator.Consumers.{fold_from_yields_List}
use Rattle.std.proofs.lemmas.Iterator.{YieldsList-from_slice, YieldsList-from_zip}
use Rattle.judge_columns.proofs.Runs.{pairs_folded}
use Rattle.judge_columns.proofs.same.Goals as goal

pub returns : goal.returns
returns c =
    fold_from_yields_List _ (λ all e. all && eqb e.0 e.1) true _ c.fold.ensures.ran
    (YieldsList-from_zip
    (YieldsList-from_slice (take (c.args.i + c.args.n - c.args.i) (drop c.args.i c.args.a.now)) cc)
    (YieldsList-from_slice (take (c.args.j + c.args.n - c.args.j) (drop c.args.j c.args.b.now)) cc))
    (λ a x b q k. search (rules, tests))
    ∙ pairs_folded (λ e. eqb e.0 e.1) c.args.a.now c.args.i c.args.b.now c.args.j c.args.n
