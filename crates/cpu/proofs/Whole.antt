-- The four stages joined: what the values of each do not depend on, and that together they are the values of the whole table.
use Prim.Native.Nat.{ℕ}
use mathlib.Core.Path.{◌≡◌, refl}
use mathlib.Core.List.{List, [], ◌++◌}
use lib.ListN.{length}
use Rattle.algebra.specs.Expr.{eval}
use Rattle.residue.specs.Residues.{residues}
use Rattle.table.specs.Cells.{Cell, cells}
use Rattle.table.specs.Entry.{values, each, plus_all}
use Rattle.table.specs.CpuStark.{constraint_wrapper_cols, lv_ext_length, constraint_tx_init, tx_init_first_line_head, tx_init_first_line_regs, tx_init_each_tx_head, tx_init_each_tx_regs, eval_packed_generic_body, body_tx_idx, body_ctx_regs, body_filter_imm, constraint_ext_lines, ext_lines_counts, ext_lines_opcode, ext_lines_selectors, ext_lines_op1_imm, lv_is_ext_inst, nv_is_ext_inst, constraint_env_idx, constraint_opcode_selector, opcode_products, opcode_selectors_binary, opcode_sums, sum_s_op, cal_opcode, constraint_instruction_encode, plus_shifted, constraint_operands_mathches_registers, selectors_binary, operand_sums, selector_sum, selected, selected_next, constraint_env_unchanged_clk, constraint_env_unchanged_pc, instruction_size, pc_next, constraint_reg_consistency, dst_reg_changes, fp_consistency, multi_reg_change, instruction as instruction_word}
use Rattle.table.specs.SimpleArithmaticOp.{simple_arithmatic_op, is_op}
use Rattle.table.specs.Tape.{tape, tape_ext_lines, tape_first_ext_line, tape_tp, tape_filter}
use Rattle.table.specs.CallSc.{call_sc, call_sc_addresses, call_sc_operands, call_sc_cleared_head, call_sc_cleared_regs, call_sc_ctx_regs, call_sc_end, call_sc_filters}
use Rattle.table.specs.Table.{table, pair_values}
use Rattle.parts.proofs.Laws.{values-append}
use Rattle.stage_context.specs.Stage.{context}
use Rattle.stage_instruction.specs.Stage.{instruction}
use Rattle.stage_flow.specs.Stage.{flow}
use Rattle.stage_opcodes.specs.Stage.{opcodes}

-- the table is its stages
pub table_is : table ≡ context ++ instruction ++ flow ++ opcodes
unfolding table context instruction flow opcodes each constraint_wrapper_cols constraint_tx_init tx_init_first_line_head tx_init_first_line_regs tx_init_each_tx_head tx_init_each_tx_regs eval_packed_generic_body body_tx_idx body_ctx_regs body_filter_imm constraint_ext_lines ext_lines_counts ext_lines_opcode ext_lines_selectors ext_lines_op1_imm constraint_env_idx constraint_opcode_selector opcode_products opcode_selectors_binary opcode_sums constraint_instruction_encode constraint_operands_mathches_registers selectors_binary operand_sums constraint_env_unchanged_clk constraint_env_unchanged_pc constraint_reg_consistency dst_reg_changes fp_consistency simple_arithmatic_op tape tape_ext_lines tape_first_ext_line tape_tp tape_filter call_sc call_sc_addresses call_sc_operands call_sc_cleared_head call_sc_cleared_regs call_sc_ctx_regs call_sc_end call_sc_filters
table_is = refl

-- how many values each stage has, but for the last
module _ (env : Cell → ℕ) where
  pub context-length : length (values residues env context) ≡ 82
  unfolding values context each constraint_wrapper_cols constraint_tx_init tx_init_first_line_head tx_init_first_line_regs tx_init_each_tx_head tx_init_each_tx_regs eval_packed_generic_body body_tx_idx body_ctx_regs body_filter_imm constraint_ext_lines ext_lines_counts ext_lines_opcode ext_lines_selectors ext_lines_op1_imm constraint_env_idx
  context-length = refl

  pub instruction-length : length (values residues env instruction) ≡ 62
  unfolding values instruction each constraint_wrapper_cols constraint_tx_init tx_init_first_line_head tx_init_first_line_regs tx_init_each_tx_head tx_init_each_tx_regs eval_packed_generic_body body_tx_idx body_ctx_regs body_filter_imm constraint_ext_lines ext_lines_counts ext_lines_opcode ext_lines_selectors ext_lines_op1_imm constraint_env_idx constraint_opcode_selector opcode_products opcode_selectors_binary opcode_sums constraint_instruction_encode constraint_operands_mathches_registers selectors_binary operand_sums
  instruction-length = refl

  pub flow-length : length (values residues env flow) ≡ 15
  unfolding values flow each constraint_wrapper_cols constraint_tx_init tx_init_first_line_head tx_init_first_line_regs tx_init_each_tx_head tx_init_each_tx_regs eval_packed_generic_body body_tx_idx body_ctx_regs body_filter_imm constraint_ext_lines ext_lines_counts ext_lines_opcode ext_lines_selectors ext_lines_op1_imm constraint_env_idx constraint_opcode_selector opcode_products opcode_selectors_binary opcode_sums constraint_instruction_encode constraint_operands_mathches_registers selectors_binary operand_sums constraint_env_unchanged_clk constraint_env_unchanged_pc constraint_reg_consistency dst_reg_changes fp_consistency
  flow-length = refl

module _ (m lv nv : List ℕ) (z f : ℕ) where
  pub context-same : values residues (cells m lv nv z f) context ≡ values residues (cells [] lv nv z f) context
  unfolding eval values each context constraint_wrapper_cols lv_ext_length constraint_tx_init tx_init_first_line_head tx_init_first_line_regs tx_init_each_tx_head tx_init_each_tx_regs eval_packed_generic_body body_tx_idx body_ctx_regs body_filter_imm constraint_ext_lines ext_lines_counts ext_lines_opcode ext_lines_selectors ext_lines_op1_imm lv_is_ext_inst nv_is_ext_inst constraint_env_idx
  context-same = refl

  pub instruction-same : values residues (cells m lv nv z f) instruction ≡ values residues (cells m lv nv 0 0) instruction
  unfolding eval values each instruction constraint_opcode_selector opcode_products opcode_selectors_binary opcode_sums sum_s_op cal_opcode plus_all constraint_instruction_encode plus_shifted instruction_word constraint_operands_mathches_registers selectors_binary operand_sums selector_sum selected selected_next
  instruction-same = refl

  pub flow-same : values residues (cells m lv nv z f) flow ≡ values residues (cells [] lv nv z 0) flow
  unfolding eval values each flow constraint_env_unchanged_clk constraint_env_unchanged_pc instruction_size pc_next constraint_reg_consistency dst_reg_changes fp_consistency multi_reg_change
  flow-same = refl

  pub opcodes-same : values residues (cells m lv nv z f) opcodes ≡ values residues (cells m lv nv z 0) opcodes
  unfolding eval values each opcodes simple_arithmatic_op is_op tape tape_ext_lines tape_first_ext_line tape_tp tape_filter call_sc call_sc_addresses call_sc_operands call_sc_cleared_head call_sc_cleared_regs call_sc_ctx_regs call_sc_end call_sc_filters
  opcodes-same = refl

  pub stages : pair_values m lv nv z f
      ≡ values residues (cells [] lv nv z f) context
      ++ values residues (cells m lv nv 0 0) instruction
      ++ values residues (cells [] lv nv z 0) flow
      ++ values residues (cells m lv nv z 0) opcodes
  unfolding pair_values
  stages =
      rw (table_is, values-append (cells m lv nv z f) (context ++ instruction ++ flow) opcodes, values-append (cells m lv nv z f) (context ++ instruction) flow, values-append (cells m lv nv z f) context instruction, context-same, instruction-same, flow-same, opcodes-same) refl
