-- `checks::canonical` meets its contract: what is left is below p exactly if all are.
use mathlib.Core.Path.{sym, ap, ◌∙◌}
use mathlib.Core.Bool.{Bool, ◌&&◌}
use Rattle.refusals.specs.Refusal.{canonical}
use Rattle.checks.proofs.Laws.{canonical_parts}
use Rattle.checks.proofs.canonical.Goals as goal

pub returns-then-not-each_canonical : goal.returns-then-not-each_canonical
returns-then-not-each_canonical c =
    ap (λ (b : Bool). b && canonical c.in-Some.others.now) (sym c.if-not-each_canonical.true ∙ c.each_canonical.ensures)
    ∙ sym (canonical_parts 32 _ _ _ c.in-Some.ensures.cases.0 c.in-Some.ensures.cases.1)
    ∙ c.loop-part.invariant

pub loop-part-preserved : goal.loop-part-preserved
loop-part-preserved c =
    ap (λ (b : Bool). b && canonical c.in-Some.others.now) (sym c.if-not-each_canonical.false ∙ c.each_canonical.ensures)
    ∙ sym (canonical_parts 32 _ _ _ c.in-Some.ensures.cases.0 c.in-Some.ensures.cases.1)
    ∙ c.loop-part.invariant
