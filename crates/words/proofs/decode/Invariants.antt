use mathlib.Core.Path.{◌≡◌}
use lib.ListN.{take}
use Rattle.words.specs.Words.{words}
use Rattle.words.proofs.decode.Given as goal

abbrev pub invariant-loop-i : goal.invariant-loop-i
invariant-loop-i l = take l.i l.out ≡ words l.i l.bytes
