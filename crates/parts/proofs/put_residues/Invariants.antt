use Rattle.std.proofs.Common.{◌≡◌, length, take}
use Rattle.parts.proofs.put_residues.Given as goal

abbrev pub invariant-loop-i : goal.invariant-loop-i
invariant-loop-i l = (length l.out ≡ length l.values) × (take l.i l.out ≡ take l.i l.values)
