-- `cpu_instruction::operands::selectors_binary` meets its contract.
use Rattle.std.proofs.Common.{rules}
use Rattle.algebra.specs.Expr.{eval}
use Rattle.residue.specs.Residues.{sub_p}
use Rattle.table.specs.CpuStark.{selectors_binary}
use Rattle.parts.proofs.FromFn.{made_each}
use Rattle.cpu_instruction.proofs.operands.selectors_binary.Goals as goal

pub returns : goal.returns
unfolding eval sub_p selectors_binary
returns c = made_each _ _ _ c.from_fn.ensures.items (λ i y q k. search rules)
