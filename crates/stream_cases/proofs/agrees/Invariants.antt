use Rattle.stream_model.proofs.Onward.{left}
use Rattle.stream_cases.proofs.Laws.{Printed}
use Rattle.stream_cases.proofs.agrees.Given as goal

abbrev pub invariant-loop-after : goal.invariant-loop-after
invariant-loop-after g l = Printed g.T.PairText.text l.input l.left l.expected l.rest l.after.state

abbrev pub decreases-loop-after : goal.decreases-loop-after
decreases-loop-after g l = left l.after.state
