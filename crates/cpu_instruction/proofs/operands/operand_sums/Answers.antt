-- `cpu_instruction::operands::operand_sums` meets its contract.
use Rattle.std.proofs.Common.{[]}
use Rattle.algebra.specs.Expr.{eval}
use Rattle.residue.specs.Residues.{sub_p}
use Rattle.table.specs.Columns.{COL-S-OP0-START, COL-S-OP1-START, COL-S-DST-START}
use Rattle.table.specs.Entry.{values}
use Rattle.table.specs.CpuStark.{operand_sums}
use Rattle.cpu_instruction.proofs.Laws.{selector_sum_is, selected_is, selected_next_is}
use Rattle.cpu_instruction.proofs.operands.operand_sums.Goals as goal

pub returns : goal.returns
unfolding eval values sub_p operand_sums
returns c =
    let l = c.args.lv.now in
    let n = c.args.nv.now in
    cc (
      selector_sum_is [] l n 0 0 COL-S-OP0-START,
      selector_sum_is [] l n 0 0 COL-S-OP1-START,
      selector_sum_is [] l n 0 0 COL-S-DST-START,
      selected_is [] l n 0 0 COL-S-OP0-START,
      selected_is [] l n 0 0 COL-S-OP1-START,
      selected_next_is [] l n 0 0 COL-S-DST-START,
    )
