-- The program that is made of the Rust's expressions is the table, by computation; so, run on the numbers of a pair, it leaves its values.
use mathlib.Core.Path.{◌≡◌, refl, sym, ap, ◌∙◌}
use mathlib.Core.List.{List, map, map-map}
use Prim.Native.Nat.{ℕ}
use lib.ListN.{length, take}
use Rattle.algebra.specs.Ring.{Ops}
use Rattle.algebra.specs.Expr.{eval}
use Rattle.residue.specs.Residues.{residues}
use Rattle.table.specs.Cells.{Cell, cells}
use Rattle.table.specs.Entry.{weighted_by, values, plus_all, each}
use Rattle.table.specs.Table.{table, pair_values}
use Rattle.table.specs.CpuStark.{
  lv_is_ext_inst,
  nv_is_ext_inst,
  lv_ext_length,
  constraint_wrapper_cols,
  tx_init_first_line_head,
  tx_init_first_line_regs,
  tx_init_each_tx_head,
  tx_init_each_tx_regs,
  constraint_tx_init,
  body_tx_idx,
  body_ctx_regs,
  body_filter_imm,
  eval_packed_generic_body,
  ext_lines_counts,
  ext_lines_opcode,
  ext_lines_selectors,
  ext_lines_op1_imm,
  constraint_ext_lines,
  constraint_env_idx,
  opcode_products,
  opcode_selectors_binary,
  sum_s_op,
  cal_opcode,
  opcode_sums,
  constraint_opcode_selector,
  plus_shifted,
  instruction,
  constraint_instruction_encode,
  selectors_binary,
  selector_sum,
  selected,
  selected_next,
  operand_sums,
  constraint_operands_mathches_registers,
  constraint_env_unchanged_clk,
  instruction_size,
  pc_next,
  constraint_env_unchanged_pc,
  multi_reg_change,
  dst_reg_changes,
  fp_consistency,
  constraint_reg_consistency,
}
use Rattle.table.specs.SimpleArithmaticOp.{is_op, simple_arithmatic_op}
use Rattle.table.specs.Tape.{tape_ext_lines, tape_first_ext_line, tape_tp, tape_filter, tape}
use Rattle.table.specs.CallSc.{
  call_sc_addresses,
  call_sc_operands,
  call_sc_cleared_head,
  call_sc_cleared_regs,
  call_sc_ctx_regs,
  call_sc_end,
  call_sc_filters,
  call_sc,
}
use Rattle.straight_line.specs.Program.{on_values, run, fits}
use Rattle.straight_line.proofs.Evaluated.{first-eval}
use Rattle.table_program.specs.Listing.{constants, code}
use Rattle.table_program.specs.Means.{inputs, Means}

pub program_is-table : Means constants code table
unfolding constants code inputs run fits table plus_all each lv_is_ext_inst nv_is_ext_inst lv_ext_length
    constraint_wrapper_cols tx_init_first_line_head tx_init_first_line_regs tx_init_each_tx_head tx_init_each_tx_regs
    constraint_tx_init body_tx_idx body_ctx_regs body_filter_imm eval_packed_generic_body ext_lines_counts
    ext_lines_opcode ext_lines_selectors ext_lines_op1_imm constraint_ext_lines constraint_env_idx opcode_products
    opcode_selectors_binary sum_s_op cal_opcode opcode_sums constraint_opcode_selector plus_shifted instruction
    constraint_instruction_encode selectors_binary selector_sum selected selected_next operand_sums
    constraint_operands_mathches_registers constraint_env_unchanged_clk instruction_size pc_next
    constraint_env_unchanged_pc multi_reg_change dst_reg_changes fp_consistency constraint_reg_consistency is_op
    simple_arithmatic_op tape_ext_lines tape_first_ext_line tape_tp tape_filter tape call_sc_addresses
    call_sc_operands call_sc_cleared_head call_sc_cleared_regs call_sc_ctx_regs call_sc_end call_sc_filters call_sc
program_is-table = record { fit = tt; weighted = refl; kinds = refl }

-- run on values, over any operations, it leaves the values of the table
pub program_values : (R : Ops) (env : Cell → R.F)
    → take (length table) (run (on_values R) code (map (eval R env) (inputs constants))) ≡ values R env table
unfolding values
program_values R env =
    sym (first-eval R env (length table) code (inputs constants))
    ∙ ap (map (eval R env)) program_is-table.weighted
    ∙ map-map (eval R env) (λ e. weighted_by e.kind e.expr) table

-- so of a pair: these are the values that the entry writes, and that the fold takes
pub program_pair_values : (masks lv nv : List ℕ) (z f : ℕ)
    → take (length table) (run (on_values residues) code (map (eval residues (cells masks lv nv z f)) (inputs constants)))
    ≡ pair_values masks lv nv z f
unfolding pair_values
program_pair_values masks lv nv z f = program_values residues (cells masks lv nv z f)
