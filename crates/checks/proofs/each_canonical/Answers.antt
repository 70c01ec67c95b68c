-- `checks::each_canonical` meets its contract.
use mathlib.Core.Path.{◌∙◌}
use mathlib.Core.Bool.{true, ◌&&◌}
use lib.Dec.{ltb}
use borrow.Author.Tests.{tests}
use Rattle.std.proofs.Common.{rules}
use Rattle.std.proofs.lemmas.Iterator.{YieldsList-from_slice}
use Rattle.std.proofs.lemmas.Iterator.Consumers.{fold_from_yields_List}
use Rattle.algebra.specs.Prime.{p}
use Rattle.refusals.proofs.Laws.{canonical_fold}
use Rattle.checks.proofs.each_canonical.Goals as goal

pub returns : goal.returns
returns c =
    fold_from_yields_List _ (λ b x. b && ltb x p) _ c.fold.result c.fold.ensures.ran (YieldsList-from_slice c.args.numbers.now cc) (λ a x b q k. search (rules, tests))
    ∙ canonical_fold true c.args.numbers.now
