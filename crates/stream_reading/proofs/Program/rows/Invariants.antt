use Prim.Native.Nat.{◌<◌}
use Rattle.stream_reading.specs.Sizes.{block_bytes}
use Rattle.stream_reading.proofs.Laws.{left}
use Rattle.stream_reading.proofs.Program.rows.Given as goal

abbrev pub invariant-loop-reading : goal.invariant-loop-reading
invariant-loop-reading g l = l.reading.1.0 < block_bytes

abbrev pub decreases-loop-reading : goal.decreases-loop-reading
decreases-loop-reading g l = left l.reading.0.state l.reading.1.0
