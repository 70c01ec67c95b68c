use mathlib.Core.Path.{◌≡◌}
use mathlib.Core.List.{◌++◌}
use lib.ListN.{take}
use Rattle.stream_text.specs.Faults.{faults_of_pair}
use Rattle.stream_lines.proofs.FaultsPairText.put.Given as goal

abbrev pub invariant-loop-i : goal.invariant-loop-i
invariant-loop-i g l = l.out ≡ l.initial.out ++ faults_of_pair l.index (take l.i l.values)
