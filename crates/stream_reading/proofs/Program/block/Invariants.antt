use Rattle.stream_reading.proofs.Laws.{FedBefore}
use lib.ListN.{length}
use Rattle.stream_reading.proofs.Program.block.Given as goal

abbrev pub invariant-loop-after : goal.invariant-loop-after
invariant-loop-after g l = FedBefore l.initial.after.state l.bytes l.rest l.after.state

abbrev pub decreases-loop-after : goal.decreases-loop-after
decreases-loop-after g l = length l.rest
