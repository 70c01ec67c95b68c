-- The numbers of the values, by computation: how many each group has, and the number of its last.
use mathlib.Core.Path.{◌≡◌, refl}
use mathlib.Core.List.{List, [], ◌∷◌}
use Prim.Native.Nat.{ℕ, ◌+◌}
use lib.ListN.{length}
use Rattle.table.specs.Entry.{Entry, each}
use Rattle.table.specs.CpuStark.{constraint_wrapper_cols, constraint_tx_init, eval_packed_generic_body, constraint_ext_lines, constraint_env_idx, constraint_opcode_selector, constraint_instruction_encode, constraint_operands_mathches_registers, constraint_env_unchanged_clk, constraint_env_unchanged_pc, constraint_reg_consistency, tx_init_first_line_head, tx_init_first_line_regs, tx_init_each_tx_head, tx_init_each_tx_regs, body_tx_idx, body_ctx_regs, body_filter_imm, ext_lines_counts, ext_lines_opcode, ext_lines_selectors, ext_lines_op1_imm, opcode_products, opcode_selectors_binary, opcode_sums, selectors_binary, operand_sums, dst_reg_changes, fp_consistency}
use Rattle.table.specs.SimpleArithmaticOp.{simple_arithmatic_op}
use Rattle.table.specs.Tape.{tape, tape_ext_lines, tape_first_ext_line, tape_tp, tape_filter}
use Rattle.table.specs.CallSc.{call_sc, call_sc_addresses, call_sc_operands, call_sc_cleared_head, call_sc_cleared_regs, call_sc_ctx_regs, call_sc_end, call_sc_filters}
use Rattle.table.specs.Table.{table}

-- the lengths added up: the number of the last value of each group
abbrev pub numbered : ℕ → List (List Entry) → List ℕ
numbered n [] = []
numbered n (g ∷ gs) = (n + length g) ∷ numbered (n + length g) gs

-- "A constraint_wrapper_cols 1–7; B constraint_tx_init 8–38; C body of eval_packed_generic 39–50; D constraint_ext_lines 51–75;
-- E constraint_env_idx 76–82; F constraint_opcode_selector 83–105; G constraint_instruction_encode 106–108; H operands 109–144;
-- I clk 145–146; J pc 147–149; K registers 150–159; L arithmetic 160–163; M tape 164–184; N call_sc 185–226."   (document 01)
pub last-numbers :
    numbered 0
    (constraint_wrapper_cols
    ∷ constraint_tx_init
    ∷ eval_packed_generic_body
    ∷ constraint_ext_lines
    ∷ constraint_env_idx
    ∷ constraint_opcode_selector
    ∷ constraint_instruction_encode
    ∷ constraint_operands_mathches_registers
    ∷ constraint_env_unchanged_clk
    ∷ constraint_env_unchanged_pc
    ∷ constraint_reg_consistency
    ∷ simple_arithmatic_op
    ∷ tape
    ∷ call_sc ∷ [])
    ≡ 7 ∷ 38 ∷ 50 ∷ 75 ∷ 82 ∷ 105 ∷ 108 ∷ 144 ∷ 146 ∷ 149 ∷ 159 ∷ 163 ∷ 184 ∷ 226 ∷ []
unfolding each constraint_wrapper_cols constraint_tx_init eval_packed_generic_body constraint_ext_lines constraint_env_idx constraint_opcode_selector constraint_instruction_encode constraint_operands_mathches_registers constraint_env_unchanged_clk constraint_env_unchanged_pc constraint_reg_consistency tx_init_first_line_head tx_init_first_line_regs tx_init_each_tx_head tx_init_each_tx_regs body_tx_idx body_ctx_regs body_filter_imm ext_lines_counts ext_lines_opcode ext_lines_selectors ext_lines_op1_imm opcode_products opcode_selectors_binary opcode_sums selectors_binary operand_sums dst_reg_changes fp_consistency simple_arithmatic_op tape tape_ext_lines tape_first_ext_line tape_tp tape_filter call_sc call_sc_addresses call_sc_operands call_sc_cleared_head call_sc_cleared_regs call_sc_ctx_regs call_sc_end call_sc_filters
last-numbers = refl

pub table-length : length table ≡ 226
unfolding table each constraint_wrapper_cols constraint_tx_init eval_packed_generic_body constraint_ext_lines constraint_env_idx constraint_opcode_selector constraint_instruction_encode constraint_operands_mathches_registers constraint_env_unchanged_clk constraint_env_unchanged_pc constraint_reg_consistency tx_init_first_line_head tx_init_first_line_regs tx_init_each_tx_head tx_init_each_tx_regs body_tx_idx body_ctx_regs body_filter_imm ext_lines_counts ext_lines_opcode ext_lines_selectors ext_lines_op1_imm opcode_products opcode_selectors_binary opcode_sums selectors_binary operand_sums dst_reg_changes fp_consistency simple_arithmatic_op tape tape_ext_lines tape_first_ext_line tape_tp tape_filter call_sc call_sc_addresses call_sc_operands call_sc_cleared_head call_sc_cleared_regs call_sc_ctx_regs call_sc_end call_sc_filters
table-length = refl
