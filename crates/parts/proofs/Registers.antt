-- The order of factors, for entries over the registers of a row whose weight is applied first. A caller of `scaled` or `ctx_differences`
-- names this set in its attribute, `using(parts::proofs::Registers::registers)`, beside `unfolding(.., each, up_to)` or `unfolding(..,
-- each, ctx_differences)`: both sides are then the values one by one.
use Rattle.residue.proofs.Laws.{mul_p_comm, mul_p-right_comm}

pub ruleset registers = (mul_p_comm, mul_p-right_comm)
