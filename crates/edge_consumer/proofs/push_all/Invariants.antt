use mathlib.Core.Path.{◌≡◌}
use Rattle.std.specs.Iterator.Adapters.{zip_first, zip_second}
use Rattle.std.specs.Slice.Iter.{iter_rest}
use Rattle.consumer_history.specs.Yielded.{taken_all}
use Rattle.edge_consumer.specs.Calls.{yielded_by}
use Rattle.edge_consumer.proofs.push_all.Given as goal

-- what is left of both slices, given to the consumer so far
abbrev pub invariant-loop-kind : goal.invariant-loop-kind
invariant-loop-kind l =
    let kinds = iter_rest (zip_first l.kind-iterator) in
    let values = iter_rest (zip_second l.kind-iterator) in
    taken_all l.initial.consumer (yielded_by l.kinds l.values) ≡ taken_all l.consumer (yielded_by kinds values)
