use Prim.Native.Nat.{◌≤◌}
use Rattle.compared_line.proofs.compare.Given as goal

abbrev pub invariant-loop-n : goal.invariant-loop-n
invariant-loop-n g l = l.differ ≤ l.n
