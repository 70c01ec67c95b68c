use Rattle.tally.proofs.Laws.{Counted}
use Rattle.tally.proofs.count_nonzero.Given as goal

abbrev pub invariant-loop-i : goal.invariant-loop-i
invariant-loop-i l = Counted l.values l.i l.count l.lowest
