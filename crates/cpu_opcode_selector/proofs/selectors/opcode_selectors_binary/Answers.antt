-- `cpu_opcode_selector::selectors::opcode_selectors_binary` meets its contract.
use Rattle.std.proofs.Common.{rules}
use Rattle.algebra.specs.Expr.{eval}
use Rattle.residue.specs.Residues.{sub_p}
use Rattle.table.specs.CpuStark.{opcode_selectors_binary}
use Rattle.parts.proofs.FromFn.{made_each}
use Rattle.cpu_opcode_selector.proofs.selectors.opcode_selectors_binary.Goals as goal

pub returns : goal.returns
unfolding eval sub_p opcode_selectors_binary
returns c = made_each _ _ _ c.from_fn.ensures.items (λ i y q k. search rules)
