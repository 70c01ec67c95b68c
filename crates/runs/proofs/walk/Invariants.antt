use Rattle.run_pairs.specs.Run.{pair_at}
use Rattle.runs.proofs.Found.{Found}
use Rattle.runs.proofs.walk.Given as goal

abbrev pub invariant-loop-i : goal.invariant-loop-i
invariant-loop-i l = Found (pair_at l.run.words.now l.run.masks.now l.rows) l.rows l.i l.failing l.spot
