use mathlib.Core.Path.{◌≡◌}
use Rattle.worked.specs.Rows.{after}
use Rattle.edge_streams.proofs.after.Given as goal

abbrev pub invariant-loop-fed : goal.invariant-loop-fed
invariant-loop-fed l = l.after.state ≡ after l._fed
