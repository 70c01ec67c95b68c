use Rattle.std.proofs.Common.{◌≡◌, length}
use Rattle.refusals.specs.Refusal.{canonical}
use Rattle.checks.proofs.canonical.Given as goal

-- all that stood before what is left is below p
abbrev pub invariant-loop-part : goal.invariant-loop-part
invariant-loop-part l = canonical l.rest ≡ canonical l.numbers

abbrev pub decreases-loop-part : goal.decreases-loop-part
decreases-loop-part l = length l.rest
