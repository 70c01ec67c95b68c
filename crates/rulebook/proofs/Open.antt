-- The table with all its groups and helpers open: a proof that says `unfolding open_table` sees every entry.
use mathlib.Core.List.{List}
use Rattle.table.specs.Entry.{Entry, each, plus_all}
use Rattle.table.specs.CpuStark.{lv_is_ext_inst, nv_is_ext_inst, lv_ext_length, constraint_wrapper_cols, constraint_tx_init, tx_init_first_line_head, tx_init_first_line_regs, tx_init_each_tx_head, tx_init_each_tx_regs, eval_packed_generic_body, body_tx_idx, body_ctx_regs, body_filter_imm, constraint_ext_lines, ext_lines_counts, ext_lines_opcode, ext_lines_selectors, ext_lines_op1_imm, constraint_env_idx, constraint_opcode_selector, opcode_products, opcode_selectors_binary, sum_s_op, cal_opcode, opcode_sums, constraint_instruction_encode, plus_shifted, instruction, selectors_binary, selector_sum, selected, selected_next, operand_sums, constraint_operands_mathches_registers, constraint_env_unchanged_clk, instruction_size, pc_next, constraint_env_unchanged_pc, constraint_reg_consistency, multi_reg_change, dst_reg_changes, fp_consistency}
use Rattle.table.specs.SimpleArithmaticOp.{is_op, simple_arithmatic_op}
use Rattle.table.specs.Tape.{tape, tape_ext_lines, tape_first_ext_line, tape_tp, tape_filter}
use Rattle.table.specs.CallSc.{call_sc, call_sc_addresses, call_sc_operands, call_sc_cleared_head, call_sc_cleared_regs, call_sc_ctx_regs, call_sc_end, call_sc_filters}
use Rattle.table.specs.Table.{table}

unfoldable pub open_table : List Entry
unfolding table each plus_all lv_is_ext_inst nv_is_ext_inst lv_ext_length constraint_wrapper_cols constraint_tx_init tx_init_first_line_head tx_init_first_line_regs tx_init_each_tx_head tx_init_each_tx_regs eval_packed_generic_body body_tx_idx body_ctx_regs body_filter_imm constraint_ext_lines ext_lines_counts ext_lines_opcode ext_lines_selectors ext_lines_op1_imm constraint_env_idx constraint_opcode_selector opcode_products opcode_selectors_binary sum_s_op cal_opcode opcode_sums constraint_instruction_encode plus_shifted instruction selectors_binary selector_sum selected selected_next operand_sums constraint_operands_mathches_registers constraint_env_unchanged_clk instruction_size pc_next constraint_env_unchanged_pc constraint_reg_consistency multi_reg_change dst_reg_changes fp_consistency is_op simple_arithmatic_op tape tape_ext_lines tape_first_ext_line tape_tp tape_filter call_sc call_sc_addresses call_sc_operands call_sc_cleared_head call_sc_cleared_regs call_sc_ctx_regs call_sc_end call_sc_filters
open_table = table
