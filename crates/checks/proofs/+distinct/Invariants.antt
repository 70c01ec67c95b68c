use lib.ListN.{length}
use Rattle.checks.proofs.+distinct.Given as goal

abbrev pub decreases-distinct : goal.decreases-distinct
decreases-distinct l = length l.numbers.now
