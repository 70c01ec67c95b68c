-- The constraints of cpu_stark.rs, function by function, in the source's order and with its comments.
use Rattle.std.specs.Prelude.{List, [], ◌∷◌, ◌++◌, ℕ, ◌+◌, ◌-◌, ◌^◌, get_or}
use Rattle.algebra.specs.Expr.{Expr, con, ◌⊕◌, ◌⊖◌, ◌⊗◌}
use Rattle.table.specs.Columns.{REGISTER-NUM, CTX-REGISTER-NUM, COL-TX-IDX, COL-ENV-IDX, COL-CALL-SC-CNT, COL-ADDR-STORAGE-RANGE-START, COL-ADDR-CODE-RANGE-START, COL-TP, COL-CLK, COL-PC, COL-IS-EXT-LINE, COL-EXT-CNT, COL-REGS-START, COL-INST, COL-OP1-IMM, COL-OPCODE, COL-IMM-VAL, COL-OP0, COL-OP1, COL-DST, COL-S-OP0-START, COL-S-OP1-START, COL-S-DST-START, COL-S-SIMPLE-ARITHMATIC-OP, COL-S-JMP, COL-S-CJMP, COL-S-CALL, COL-S-RET, COL-S-MLOAD, COL-S-MSTORE, COL-S-END, COL-S-BITWISE, COL-S-PSDN, COL-S-SLOAD, COL-S-SSTORE, COL-S-TLOAD, COL-S-TSTORE, COL-S-CALL-SC, NUM-OP-SELECTOR, COL-IS-ENTRY-SC, COL-IS-NEXT-LINE-DIFF-INST, COL-IS-NEXT-LINE-SAME-TX, COL-FILTER-LOOKING-PROG-IMM, COL-IS-PADDING}
use Rattle.table.specs.Masks as M
use Rattle.table.specs.Cells.{Cell, lv, nv, mask}
use Rattle.table.specs.Entry.{Entry, constraint, constraint_transition, constraint_first_row, 𝟙, plus_all, sum, each}

-- CpuAdjacentRowWrapper::from_vars
abbrev pub lv_is_padding : Expr Cell
lv_is_padding = lv COL-IS-PADDING

abbrev pub nv_is_padding : Expr Cell
nv_is_padding = nv COL-IS-PADDING

unfoldable pub lv_is_ext_inst : Expr Cell
lv_is_ext_inst =
    lv COL-S-SLOAD ⊕ lv COL-S-SSTORE ⊕ lv COL-S-TLOAD ⊕ lv COL-S-TSTORE ⊕ lv COL-S-CALL-SC ⊕ lv COL-S-END

unfoldable pub nv_is_ext_inst : Expr Cell
nv_is_ext_inst =
    nv COL-S-SLOAD ⊕ nv COL-S-SSTORE ⊕ nv COL-S-TLOAD ⊕ nv COL-S-TSTORE ⊕ nv COL-S-CALL-SC ⊕ nv COL-S-END

abbrev pub lv_is_entry_sc : Expr Cell
lv_is_entry_sc = lv COL-IS-ENTRY-SC

unfoldable pub lv_ext_length : Expr Cell
lv_ext_length =
    lv COL-S-SLOAD
    ⊕ lv COL-S-SSTORE
    ⊕ lv COL-S-TLOAD ⊗ (lv COL-OP0 ⊗ lv COL-OP1 ⊕ (𝟙 ⊖ lv COL-OP0))
    ⊕ lv COL-S-TSTORE ⊗ lv COL-OP1
    ⊕ lv COL-S-CALL-SC
    ⊕ lv COL-S-END ⊗ (𝟙 ⊖ lv_is_entry_sc)

abbrev pub is_crossing_inst : Expr Cell
is_crossing_inst = lv COL-IS-NEXT-LINE-DIFF-INST

abbrev pub is_in_same_tx : Expr Cell
is_in_same_tx = lv COL-IS-NEXT-LINE-SAME-TX

-- A, 1 to 7
unfoldable pub constraint_wrapper_cols : List Entry
constraint_wrapper_cols =
    -- padding from zero to one, and padding row op is end.
    constraint (lv_is_padding ⊗ (lv_is_padding ⊖ 𝟙))
    ∷ constraint_transition ((nv_is_padding ⊖ lv_is_padding) ⊗ (nv_is_padding ⊖ lv_is_padding ⊖ 𝟙))
    ∷ constraint (lv_is_padding ⊗ (lv COL-S-END ⊖ 𝟙))
    -- entry sc env_idx = 0
    ∷ constraint (lv_is_entry_sc ⊗ nv COL-ENV-IDX)
    -- if in same tx, tx_idx should be same
    ∷ constraint ((𝟙 ⊖ nv_is_padding) ⊗ is_in_same_tx ⊗ (nv COL-TX-IDX ⊖ lv COL-TX-IDX))
    -- if not same tx, diff of tx_idx should be 1
    ∷ constraint_transition ((𝟙 ⊖ nv_is_padding) ⊗ (𝟙 ⊖ is_in_same_tx) ⊗ (nv COL-TX-IDX ⊖ lv COL-TX-IDX ⊖ 𝟙))
    -- when crossing inst, ext cnt must be ext length.
    ∷ constraint (is_crossing_inst ⊗ (lv_ext_length ⊖ lv COL-EXT-CNT))
    ∷ []

-- first line context init
unfoldable pub tx_init_first_line_head : List Entry
tx_init_first_line_head =
    constraint_first_row (lv COL-TX-IDX)
    ∷ constraint_first_row (lv COL-ENV-IDX)
    ∷ constraint_first_row (lv COL-CALL-SC-CNT)
    ∷ constraint_first_row (lv COL-CLK)
    ∷ constraint_first_row (lv COL-PC)
    ∷ []

unfoldable pub tx_init_first_line_regs : List Entry
tx_init_first_line_regs = each REGISTER-NUM (λ i. constraint_first_row (lv (COL-REGS-START + i)) ∷ [])

unfoldable pub tx_init_each_tx_head : List Entry
tx_init_each_tx_head =
    -- tx_idx should be the same or increase by one
    constraint_transition (is_in_same_tx ⊗ (nv COL-TX-IDX ⊖ lv COL-TX-IDX))
    -- each tx context init
    ∷ constraint_transition ((𝟙 ⊖ is_in_same_tx) ⊗ nv COL-ENV-IDX)
    ∷ constraint_transition ((𝟙 ⊖ is_in_same_tx) ⊗ nv COL-CALL-SC-CNT)
    ∷ constraint_transition ((𝟙 ⊖ is_in_same_tx) ⊗ nv COL-TP)
    ∷ constraint_transition ((𝟙 ⊖ is_in_same_tx) ⊗ nv COL-CLK)
    ∷ constraint_transition ((𝟙 ⊖ is_in_same_tx) ⊗ nv COL-PC)
    ∷ []

unfoldable pub tx_init_each_tx_regs : List Entry
tx_init_each_tx_regs = each REGISTER-NUM (λ i. constraint_transition ((𝟙 ⊖ is_in_same_tx) ⊗ nv (COL-REGS-START + i)) ∷ [])

-- B, 8 to 38
unfoldable pub constraint_tx_init : List Entry
constraint_tx_init = tx_init_first_line_head ++ tx_init_first_line_regs ++ tx_init_each_tx_head ++ tx_init_each_tx_regs

-- tx_idx not change or increase by 1
unfoldable pub body_tx_idx : List Entry
body_tx_idx =
    constraint_transition ((𝟙 ⊖ nv_is_padding) ⊗ (𝟙 ⊖ lv COL-S-END) ⊗ (nv COL-TX-IDX ⊖ lv COL-TX-IDX))
    ∷ constraint_transition ((𝟙 ⊖ nv_is_padding) ⊗ lv_is_entry_sc ⊗ lv COL-S-END ⊗ (nv COL-TX-IDX ⊖ lv COL-TX-IDX ⊖ 𝟙))
    ∷ []

abbrev pub ctx_reg_kept : ℕ → Entry
ctx_reg_kept c =
    constraint_transition ((𝟙 ⊖ nv_is_padding) ⊗ (𝟙 ⊖ lv COL-S-END) ⊗ (𝟙 ⊖ lv COL-S-CALL-SC) ⊗ (nv c ⊖ lv c))

-- ctx reg not change on normal opcodes
unfoldable pub body_ctx_regs : List Entry
body_ctx_regs =
    each CTX-REGISTER-NUM (λ i. ctx_reg_kept (COL-ADDR-STORAGE-RANGE-START + i) ∷ ctx_reg_kept (COL-ADDR-CODE-RANGE-START + i) ∷ [])

-- filter imm to prog
unfoldable pub body_filter_imm : List Entry
body_filter_imm =
    constraint ((𝟙 ⊖ lv COL-IS-PADDING ⊖ lv COL-IS-EXT-LINE) ⊗ lv COL-OP1-IMM ⊗ (𝟙 ⊖ lv COL-FILTER-LOOKING-PROG-IMM))
    ∷ constraint ((𝟙 ⊖ lv COL-IS-PADDING ⊖ lv COL-IS-EXT-LINE) ⊗ (lv COL-S-MLOAD ⊕ lv COL-S-MSTORE) ⊗ (𝟙 ⊖ lv COL-FILTER-LOOKING-PROG-IMM))
    ∷ []

-- C, 39 to 50
unfoldable pub eval_packed_generic_body : List Entry
eval_packed_generic_body = body_tx_idx ++ body_ctx_regs ++ body_filter_imm

unfoldable pub ext_lines_counts : List Entry
ext_lines_counts =
    -- constraint is_ext_line
    constraint ((𝟙 ⊖ lv_is_ext_inst) ⊗ lv COL-IS-EXT-LINE)
    ∷ constraint (lv_is_ext_inst ⊗ (lv_ext_length ⊖ lv COL-EXT-CNT) ⊗ (𝟙 ⊖ nv COL-IS-EXT-LINE))
    -- constraint ext_cnt
    ∷ constraint (lv_is_ext_inst ⊗ (𝟙 ⊖ lv COL-IS-EXT-LINE) ⊗ lv COL-EXT-CNT)
    ∷ constraint (nv_is_ext_inst ⊗ nv COL-IS-EXT-LINE ⊗ (nv COL-EXT-CNT ⊖ lv COL-EXT-CNT ⊖ 𝟙))
    ∷ []

abbrev pub kept_on_ext_line : ℕ → Entry
kept_on_ext_line c = constraint (nv COL-IS-EXT-LINE ⊗ (nv c ⊖ lv c))

-- opcode, opcode selector, op1_imm not change
unfoldable pub ext_lines_opcode : List Entry
ext_lines_opcode = kept_on_ext_line COL-OPCODE ∷ []

unfoldable pub ext_lines_selectors : List Entry
ext_lines_selectors = each NUM-OP-SELECTOR (λ i. kept_on_ext_line (COL-S-SIMPLE-ARITHMATIC-OP + i) ∷ [])

unfoldable pub ext_lines_op1_imm : List Entry
ext_lines_op1_imm = kept_on_ext_line COL-OP1-IMM ∷ []

-- D, 51 to 75
unfoldable pub constraint_ext_lines : List Entry
constraint_ext_lines = ext_lines_counts ++ ext_lines_opcode ++ ext_lines_selectors ++ ext_lines_op1_imm

-- E, 76 to 82
unfoldable pub constraint_env_idx : List Entry
constraint_env_idx =
    -- call_sc_cnt only increase by 1 on last ext line of call_sc
    constraint_transition (lv COL-S-CALL-SC ⊗ is_crossing_inst ⊗ (nv COL-CALL-SC-CNT ⊖ lv COL-CALL-SC-CNT ⊖ 𝟙))
    ∷ constraint_transition (is_in_same_tx ⊗ (𝟙 ⊖ lv COL-S-CALL-SC) ⊗ (nv COL-CALL-SC-CNT ⊖ lv COL-CALL-SC-CNT))
    ∷ constraint (lv COL-S-CALL-SC ⊗ (𝟙 ⊖ is_crossing_inst) ⊗ (nv COL-CALL-SC-CNT ⊖ lv COL-CALL-SC-CNT))
    -- last ext line of call_sc
    ∷ constraint (lv COL-S-CALL-SC ⊗ is_crossing_inst ⊗ (nv COL-ENV-IDX ⊖ lv COL-CALL-SC-CNT))
    -- not call_sc and end, env_idx should be the same
    ∷ constraint ((𝟙 ⊖ lv COL-S-CALL-SC ⊖ lv COL-S-END) ⊗ (nv COL-ENV-IDX ⊖ lv COL-ENV-IDX))
    -- call_sc but not last ext line, env_idx should be the same
    ∷ constraint (lv COL-S-CALL-SC ⊗ (𝟙 ⊖ is_crossing_inst) ⊗ (nv COL-ENV-IDX ⊖ lv COL-ENV-IDX))
    -- ext of end, env_idx should be the same
    ∷ constraint (lv COL-S-END ⊗ lv COL-IS-EXT-LINE ⊗ (nv COL-ENV-IDX ⊖ lv COL-ENV-IDX))
    ∷ []

-- the opcode of a selector: `OlaOpcode::binary_bit_mask`, or 0 for the selectors of several opcodes
abbrev pub opcode_of : ℕ → Expr Cell
opcode_of i =
    get_or
    (con 0 ∷ mask M.MOV ∷ mask M.JMP ∷ mask M.CJMP ∷ mask M.CALL ∷ mask M.RET ∷ mask M.MLOAD ∷ mask M.MSTORE ∷ mask M.END ∷ mask M.RC
    ∷ con 0 ∷ mask M.NOT ∷ mask M.GTE ∷ mask M.POSEIDON ∷ mask M.SLOAD ∷ mask M.SSTORE ∷ mask M.TLOAD ∷ mask M.TSTORE ∷ mask M.SCCALL ∷ [])
    i
    (con 0)

unfoldable pub opcode_products : List Entry
opcode_products =
    constraint
    (lv COL-S-SIMPLE-ARITHMATIC-OP ⊗ (lv COL-OPCODE ⊖ mask M.ADD) ⊗ (lv COL-OPCODE ⊖ mask M.MUL) ⊗ (lv COL-OPCODE ⊖ mask M.EQ)
    ⊗ (lv COL-OPCODE ⊖ mask M.NEQ)
    ⊗ (lv COL-OPCODE ⊖ mask M.ASSERT))
    ∷ constraint (lv COL-S-BITWISE ⊗ (lv COL-OPCODE ⊖ mask M.AND) ⊗ (lv COL-OPCODE ⊖ mask M.OR) ⊗ (lv COL-OPCODE ⊖ mask M.XOR))
    ∷ []

unfoldable pub opcode_selectors_binary : List Entry
opcode_selectors_binary =
    each NUM-OP-SELECTOR (λ i. constraint (lv (COL-S-SIMPLE-ARITHMATIC-OP + i) ⊗ (𝟙 ⊖ lv (COL-S-SIMPLE-ARITHMATIC-OP + i))) ∷ [])

unfoldable pub sum_s_op : Expr Cell
sum_s_op = sum (λ i. lv (COL-S-SIMPLE-ARITHMATIC-OP + i)) NUM-OP-SELECTOR

unfoldable pub cal_opcode : Expr Cell
cal_opcode = sum (λ i. lv (COL-S-SIMPLE-ARITHMATIC-OP + i) ⊗ opcode_of i) NUM-OP-SELECTOR

unfoldable pub opcode_sums : List Entry
opcode_sums =
    -- Only one opcode selector enabled.
    constraint (𝟙 ⊖ sum_s_op)
    ∷ constraint ((lv COL-OPCODE ⊖ cal_opcode) ⊗ (𝟙 ⊖ lv COL-S-BITWISE ⊖ lv COL-S-SIMPLE-ARITHMATIC-OP))
    ∷ []

-- F, 83 to 105
unfoldable pub constraint_opcode_selector : List Entry
constraint_opcode_selector = opcode_products ++ opcode_selectors_binary ++ opcode_sums

-- CpuStark's associated constants
abbrev pub OP1-IMM-SHIFT : ℕ
OP1-IMM-SHIFT = 62

abbrev pub OP0-SHIFT-START : ℕ
OP0-SHIFT-START = 61

abbrev pub OP1-SHIFT-START : ℕ
OP1-SHIFT-START = 51

abbrev pub DST-SHIFT-START : ℕ
DST-SHIFT-START = 41

-- a and the ten selectors from column s on, the last first: the last shifted by `start`, the one before it by one place less, and so on
unfoldable pub plus_shifted : Expr Cell → ℕ → ℕ → Expr Cell
plus_shifted a s start = plus_all a (λ i. lv (s + (9 - i)) ⊗ con (2 ^ (start - i))) REGISTER-NUM

unfoldable pub instruction : Expr Cell
instruction =
    plus_shifted
    (plus_shifted
    (plus_shifted (lv COL-OP1-IMM ⊗ con (2 ^ OP1-IMM-SHIFT)) COL-S-OP0-START OP0-SHIFT-START)
    COL-S-OP1-START
    OP1-SHIFT-START)
    COL-S-DST-START
    DST-SHIFT-START
    ⊕ lv COL-OPCODE

-- G, 106 to 108
unfoldable pub constraint_instruction_encode : List Entry
constraint_instruction_encode =
    -- op_imm should be binary.
    constraint (lv COL-OP1-IMM ⊗ (𝟙 ⊖ lv COL-OP1-IMM))
    -- Constrain instruction encoding.
    ∷ constraint ((𝟙 ⊖ lv COL-IS-EXT-LINE) ⊗ (lv COL-INST ⊖ instruction))
    -- When oprand exists, op1 is imm.
    ∷ constraint ((𝟙 ⊖ lv COL-IS-EXT-LINE) ⊗ (lv COL-OP1-IMM ⊗ (lv COL-OP1 ⊖ lv COL-IMM-VAL)))
    ∷ []

-- the ten selectors from column s on should be binary. (only used as selector in main line)
unfoldable pub selectors_binary : ℕ → List Entry
selectors_binary s = each REGISTER-NUM (λ i. constraint ((𝟙 ⊖ lv COL-IS-EXT-LINE) ⊗ lv (s + i) ⊗ (𝟙 ⊖ lv (s + i))) ∷ [])

-- the sum of the ten selectors from column s on
unfoldable pub selector_sum : ℕ → Expr Cell
selector_sum s = sum (λ i. lv (s + i)) REGISTER-NUM

-- the registers of the current row, or of the next, times the ten selectors from column s on
unfoldable pub selected : ℕ → Expr Cell
selected s = sum (λ i. lv (s + i) ⊗ lv (COL-REGS-START + i)) REGISTER-NUM

unfoldable pub selected_next : ℕ → Expr Cell
selected_next s = sum (λ i. lv (s + i) ⊗ nv (COL-REGS-START + i)) REGISTER-NUM

unfoldable pub operand_sums : List Entry
operand_sums =
    -- Only one register used for op0.
    constraint ((𝟙 ⊖ lv COL-IS-EXT-LINE) ⊗ selector_sum COL-S-OP0-START ⊗ (𝟙 ⊖ selector_sum COL-S-OP0-START))
    -- Only one register used for op1.
    ∷ constraint ((𝟙 ⊖ lv COL-IS-EXT-LINE) ⊗ selector_sum COL-S-OP1-START ⊗ (𝟙 ⊖ selector_sum COL-S-OP1-START))
    -- Only one register used for dst.
    ∷ constraint ((𝟙 ⊖ lv COL-IS-EXT-LINE) ⊗ selector_sum COL-S-DST-START ⊗ (𝟙 ⊖ selector_sum COL-S-DST-START))
    -- Op and register permutation.
    ∷ constraint ((𝟙 ⊖ lv COL-IS-EXT-LINE) ⊗ selector_sum COL-S-OP0-START ⊗ (lv COL-OP0 ⊖ selected COL-S-OP0-START))
    ∷ constraint ((𝟙 ⊖ lv COL-IS-EXT-LINE) ⊗ selector_sum COL-S-OP1-START ⊗ (lv COL-OP1 ⊖ selected COL-S-OP1-START))
    ∷ constraint ((𝟙 ⊖ lv COL-IS-EXT-LINE) ⊗ selector_sum COL-S-DST-START ⊗ (lv COL-DST ⊖ selected_next COL-S-DST-START))
    ∷ []

-- H, 109 to 144
unfoldable pub constraint_operands_mathches_registers : List Entry
constraint_operands_mathches_registers =
    selectors_binary COL-S-OP0-START ++ selectors_binary COL-S-OP1-START ++ selectors_binary COL-S-DST-START ++ operand_sums

-- I, 145 and 146
unfoldable pub constraint_env_unchanged_clk : List Entry
constraint_env_unchanged_clk =
    -- next line is ext line, clk not change (except for end)
    constraint (nv COL-IS-EXT-LINE ⊗ (𝟙 ⊖ nv COL-S-END) ⊗ (nv COL-CLK ⊖ lv COL-CLK))
    -- when not change env, clk increase one when meet main line
    ∷ constraint (is_in_same_tx ⊗ (𝟙 ⊖ lv COL-S-CALL-SC ⊖ lv COL-S-END) ⊗ (𝟙 ⊖ nv COL-IS-EXT-LINE) ⊗ (nv COL-CLK ⊖ lv COL-CLK ⊖ 𝟙))
    ∷ []

unfoldable pub instruction_size : Expr Cell
instruction_size =
    (𝟙 ⊖ lv COL-S-MLOAD ⊖ lv COL-S-MSTORE) ⊗ (𝟙 ⊕ lv COL-OP1-IMM) ⊕ (lv COL-S-MLOAD ⊕ lv COL-S-MSTORE) ⊗ con 2

abbrev pub pc_incr : Expr Cell
pc_incr =
    (𝟙 ⊖ (lv COL-S-JMP ⊕ lv COL-S-CJMP ⊕ lv COL-S-CALL ⊕ lv COL-S-RET)) ⊗ (lv COL-PC ⊕ instruction_size)

abbrev pub pc_jmp : Expr Cell
pc_jmp = lv COL-S-JMP ⊗ lv COL-OP1

abbrev pub pc_cjmp : Expr Cell
pc_cjmp = lv COL-S-CJMP ⊗ ((𝟙 ⊖ lv COL-OP0) ⊗ (lv COL-PC ⊕ instruction_size) ⊕ lv COL-OP0 ⊗ lv COL-OP1)

abbrev pub pc_call : Expr Cell
pc_call = lv COL-S-CALL ⊗ lv COL-OP1

abbrev pub pc_ret : Expr Cell
pc_ret = lv COL-S-RET ⊗ lv COL-DST

-- the sum of the five
unfoldable pub pc_next : Expr Cell
pc_next = pc_incr ⊕ pc_jmp ⊕ pc_cjmp ⊕ pc_call ⊕ pc_ret

-- J, 147 to 149
unfoldable pub constraint_env_unchanged_pc : List Entry
constraint_env_unchanged_pc =
    -- next line is ext line, pc not change (except for end): the comment says pc, the code clk
    constraint (nv COL-IS-EXT-LINE ⊗ (𝟙 ⊖ nv COL-S-END) ⊗ (nv COL-CLK ⊖ lv COL-CLK))
    ∷ constraint ((𝟙 ⊖ nv COL-IS-EXT-LINE) ⊗ (𝟙 ⊖ lv COL-S-END ⊖ lv COL-S-CALL-SC) ⊗ (nv COL-PC ⊖ pc_next))
    ∷ constraint ((𝟙 ⊖ nv COL-IS-EXT-LINE) ⊗ lv COL-S-CJMP ⊗ lv COL-OP0 ⊗ (𝟙 ⊖ lv COL-OP0))
    ∷ []

unfoldable pub multi_reg_change : Expr Cell
multi_reg_change =
    lv COL-S-SLOAD ⊕ lv COL-S-PSDN ⊕ lv COL-S-CALL-SC ⊗ is_crossing_inst ⊕ lv COL-S-END ⊗ (𝟙 ⊖ lv COL-IS-EXT-LINE)

-- for normal opcode, only dst reg can change(not include fp)
unfoldable pub dst_reg_changes : List Entry
dst_reg_changes =
    each (REGISTER-NUM - 1)
    (λ i. constraint_transition ((𝟙 ⊖ multi_reg_change) ⊗ (𝟙 ⊖ lv (COL-S-DST-START + i)) ⊗ (nv (COL-REGS-START + i) ⊖ lv (COL-REGS-START + i))) ∷ [])

-- for fp consistency
unfoldable pub fp_consistency : List Entry
fp_consistency =
    constraint_transition
    ((𝟙 ⊖ lv COL-S-RET ⊖ lv COL-S-CALL-SC ⊗ is_crossing_inst ⊖ lv COL-S-END)
    ⊗ (𝟙 ⊖ lv (COL-S-DST-START + (REGISTER-NUM - 1)))
    ⊗ (nv (COL-REGS-START + (REGISTER-NUM - 1)) ⊖ lv (COL-REGS-START + (REGISTER-NUM - 1))))
    ∷ []

-- K, 150 to 159
unfoldable pub constraint_reg_consistency : List Entry
constraint_reg_consistency = dst_reg_changes ++ fp_consistency
