-- `edge_consumer::push_all` meets its contract.
use mathlib.Core.Path.{sym, ◌∙◌}
use Rattle.std.proofs.lemmas.Slice.Zip.{Zip-more, either_empty_from_Zip}
use Rattle.edge_consumer.proofs.Laws.{taken_next, taken_none}
use Rattle.edge_consumer.proofs.push_all.Goals as goal

pub loop-kind-preserved : goal.loop-kind-preserved
loop-kind-preserved c =
    let more = Zip-more _ c.next.new.self _ _ c.in-Some.is c.next.ensures.steps in
    c.loop-kind.invariant ∙ taken_next _ _ _ _ _ _ _ more.0 more.1 _ c.push.ensures

pub returns : goal.returns
returns c =
    let spent = either_empty_from_Zip _ c.next.new.self _ c.in-None.is c.next.ensures.steps in
    sym (c.loop-kind.invariant ∙ taken_none _ _ _ spent)
