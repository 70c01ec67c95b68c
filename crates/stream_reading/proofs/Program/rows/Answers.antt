-- `Program::rows` ends: each turn leaves fewer bytes to follow.
use Rattle.stream_reading.proofs.Laws.{left_less}
use Rattle.stream_reading.proofs.Program.rows.Goals as goal

pub loop-reading-smaller : goal.loop-reading-smaller
loop-reading-smaller g c =
    left_less _ _ _ _ c.loop-reading.reading.0.sound c.turn-reading.result.state.sound c.loop-reading-test.true c.turn-reading.ensures
