-- A weight that is applied to the first factor.
use Rattle.residue.proofs.Laws.{mul_p-right_comm}

pub ruleset weights = (mul_p-right_comm)
