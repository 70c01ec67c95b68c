-- The constraints of call_sc.rs.
use Rattle.std.specs.Prelude.{List, [], ◌∷◌, ◌++◌, ◌+◌}
use Rattle.algebra.specs.Expr.{Expr, ◌⊖◌, ◌⊗◌}
use Rattle.table.specs.Columns.{REGISTER-NUM, CTX-REGISTER-NUM, COL-ENV-IDX, COL-ADDR-STORAGE-RANGE-START, COL-ADDR-CODE-RANGE-START, COL-CLK, COL-PC, COL-IS-EXT-LINE, COL-REGS-START, COL-OP0, COL-OP1, COL-AUX0, COL-AUX1, COL-S-OP0-START, COL-S-END, COL-S-CALL-SC, IS-SCCALL-EXT-LINE, COL-FILTER-SCCALL-END}
use Rattle.table.specs.Cells.{Cell, lv, nv}
use Rattle.table.specs.Entry.{Entry, constraint, constraint_transition, 𝟙, each}
use Rattle.table.specs.CpuStark.{is_crossing_inst}

abbrev pub on_main_line : Expr Cell → Entry
on_main_line e = constraint (lv COL-S-CALL-SC ⊗ (𝟙 ⊖ lv COL-IS-EXT-LINE) ⊗ e)

-- sccall ext line, op0_reg_sel[0~3] is caller storage addr, op0_reg_sel[4~7] is caller code addr
unfoldable pub call_sc_addresses : List Entry
call_sc_addresses =
    each 4 (λ i. on_main_line (nv (COL-S-OP0-START + i) ⊖ lv (COL-ADDR-STORAGE-RANGE-START + i)) ∷ [])
    ++ each 4 (λ i. on_main_line (nv (COL-S-OP0-START + (4 + i)) ⊖ lv (COL-ADDR-CODE-RANGE-START + i)) ∷ [])

unfoldable pub call_sc_operands : List Entry
call_sc_operands =
    -- op0, op1 all same as main line
    on_main_line (nv COL-OP0 ⊖ lv COL-OP0)
    ∷ on_main_line (nv COL-OP1 ⊖ lv COL-OP1)
    -- in ext line of end, aux0 is env_idx, aux1 is clk
    ∷ constraint_transition (lv COL-S-END ⊗ (𝟙 ⊖ is_crossing_inst) ⊗ (lv COL-ENV-IDX ⊖ nv COL-AUX0))
    ∷ constraint_transition (lv COL-S-END ⊗ (𝟙 ⊖ is_crossing_inst) ⊗ (lv COL-CLK ⊖ nv COL-AUX1))
    ∷ []

abbrev pub after_call_sc : Expr Cell → Entry
after_call_sc e = constraint (lv COL-S-CALL-SC ⊗ is_crossing_inst ⊗ e)

-- after call_sc, pc, clk, reg should be zero;
unfoldable pub call_sc_cleared_head : List Entry
call_sc_cleared_head = after_call_sc (nv COL-CLK) ∷ after_call_sc (nv COL-PC) ∷ []

unfoldable pub call_sc_cleared_regs : List Entry
call_sc_cleared_regs = each REGISTER-NUM (λ i. after_call_sc (nv (COL-REGS-START + i)) ∷ [])

-- ctx should be same as last line
unfoldable pub call_sc_ctx_regs : List Entry
call_sc_ctx_regs =
    each CTX-REGISTER-NUM
    (λ i.
    after_call_sc (nv (COL-ADDR-STORAGE-RANGE-START + i) ⊖ lv (COL-ADDR-STORAGE-RANGE-START + i))
    ∷ after_call_sc (nv (COL-ADDR-CODE-RANGE-START + i) ⊖ lv (COL-ADDR-CODE-RANGE-START + i))
    ∷ [])

-- end ext next line, pc, clk not change
unfoldable pub call_sc_end : List Entry
call_sc_end =
    constraint (lv COL-S-END ⊗ lv COL-IS-EXT-LINE ⊗ (𝟙 ⊖ is_crossing_inst) ⊗ (nv COL-PC ⊖ lv COL-PC))
    ∷ constraint (lv COL-S-END ⊗ lv COL-IS-EXT-LINE ⊗ (𝟙 ⊖ is_crossing_inst) ⊗ (nv COL-CLK ⊖ lv COL-CLK))
    ∷ []

unfoldable pub call_sc_filters : List Entry
call_sc_filters =
    -- filter: ext line of sccall is one
    constraint (lv IS-SCCALL-EXT-LINE ⊗ (𝟙 ⊖ lv IS-SCCALL-EXT-LINE))
    ∷ constraint ((𝟙 ⊖ lv COL-S-CALL-SC) ⊗ lv IS-SCCALL-EXT-LINE)
    ∷ constraint (lv COL-S-CALL-SC ⊗ lv COL-IS-EXT-LINE ⊗ (𝟙 ⊖ lv IS-SCCALL-EXT-LINE))
    ∷ constraint (lv COL-S-CALL-SC ⊗ (𝟙 ⊖ lv COL-IS-EXT-LINE) ⊗ lv IS-SCCALL-EXT-LINE)
    -- filter of end ext
    ∷ constraint (lv COL-FILTER-SCCALL-END ⊗ (𝟙 ⊖ lv COL-FILTER-SCCALL-END))
    ∷ constraint ((𝟙 ⊖ lv COL-S-END) ⊗ lv COL-FILTER-SCCALL-END)
    ∷ constraint (lv COL-S-END ⊗ (𝟙 ⊖ lv COL-IS-EXT-LINE) ⊗ lv COL-FILTER-SCCALL-END)
    ∷ constraint (lv COL-S-END ⊗ lv COL-IS-EXT-LINE ⊗ (𝟙 ⊖ lv COL-FILTER-SCCALL-END))
    ∷ []

-- N, 185 to 226
unfoldable pub call_sc : List Entry
call_sc =
    call_sc_addresses ++ call_sc_operands ++ call_sc_cleared_head ++ call_sc_cleared_regs ++ call_sc_ctx_regs ++ call_sc_end ++ call_sc_filters
