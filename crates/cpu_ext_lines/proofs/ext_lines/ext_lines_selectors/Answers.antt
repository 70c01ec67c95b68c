-- `cpu_ext_lines::ext_lines::ext_lines_selectors` meets its contract.
use Rattle.std.proofs.Common.{rules}
use Rattle.algebra.specs.Expr.{eval}
use Rattle.residue.specs.Residues.{sub_p}
use Rattle.table.specs.CpuStark.{ext_lines_selectors}
use Rattle.parts.proofs.FromFn.{made_each}
use Rattle.cpu_ext_lines.proofs.ext_lines.ext_lines_selectors.Goals as goal

pub returns : goal.returns
unfolding eval sub_p ext_lines_selectors
returns c = made_each _ _ _ c.from_fn.ensures.items (λ i y q k. search rules)
