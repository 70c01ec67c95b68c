-- `judge_columns::ones` meets its contract.
use Rattle.std.proofs.Common.{◌+◌, ◌-◌, take, drop, rules, tests, arith, ◌∙◌}
use mathlib.Core.Bool.{cond}
use Rattle.std.proofs.lemmas.Iterator.{YieldsList-from_slice}
use Rattle.std.proofs.lemmas.Iterator.Adapters.{serves_from_total}
use Rattle.std.proofs.lemmas.Iterator.Consumers.{fold_from_yields_List}
use Rattle.judge_columns.proofs.Counts.{is-one, ones_bound, ones_counted}
use Rattle.judge_columns.proofs.ones.Goals as goal

pub fold-requires-clause-callable : goal.fold-requires-clause-callable
fold-requires-clause-callable c =
    let bound = ones_bound c.args.row.now c.args.start c.args.n c.requires in
    serves_from_total (YieldsList-from_slice (take (c.args.start + c.args.n - c.args.start) (drop c.args.start c.args.row.now)) cc) (λ x. cond (is-one x) 1 0) (λ n x q k. search (rules, tests, arith)) (λ n x h. search (rules, tests, arith))

pub returns : goal.returns
returns c =
    fold_from_yields_List _ (λ count x. count + cond (is-one x) 1 0) 0 _ c.fold.ensures.ran (YieldsList-from_slice (take (c.args.start + c.args.n - c.args.start) (drop c.args.start c.args.row.now)) cc) (λ a x b q k. search (rules, tests))
    ∙ ones_counted c.args.row.now c.args.start c.args.n c.requires
