-- `judge_columns::kept_unless_dst` meets its contract.
use Rattle.std.proofs.Common.{◌&&◌, ◌||◌, ◌+◌, ◌%◌, [], true, rules, tests, arith, ◌∙◌, refl, get_or, eqb, ap}
use Rattle.std.proofs.lemmas.Iterator.{YieldsList-from_range}
use Rattle.std.proofs.lemmas.Iterator.Consumers.{fold_from_yields_List}
use mathlib.Core.Bool.{not-not}
use Rattle.algebra.specs.Prime.{p}
use Rattle.algebra.specs.Expr.{eval}
use Rattle.table.specs.Cells.{cells}
use Rattle.rulebook.specs.Rule.{◌⇒◌, deny, holds}
use Rattle.rulebook.specs.Words.{on, kept}
use Rattle.judge_columns.proofs.Runs.{every_run}
use Rattle.judge_columns.proofs.kept_unless_dst.Goals as goal

pub returns : goal.returns
unfolding holds eval
returns c =
    fold_from_yields_List _ (λ all i. all && (eqb (get_or c.args.lv.now (56 + i) 0 % p) 1 || eqb (get_or c.args.nv.now (16 + i) 0 % p) (get_or c.args.lv.now (16 + i) 0 % p))) true _ c.fold.ensures.ran (YieldsList-from_range 0 9 9 refl (omega arith)) (λ a x b q k. search (rules, tests))
    ∙ every_run (cells [] c.args.lv.now c.args.nv.now 0 0) (λ i. deny (on (56 + i)) ⇒ kept (16 + i)) _ (λ i. ap (λ b. b || eqb (get_or c.args.nv.now (16 + i) 0 % p) (get_or c.args.lv.now (16 + i) 0 % p)) (not-not (eqb (get_or c.args.lv.now (56 + i) 0 % p) 1))) 0 9
