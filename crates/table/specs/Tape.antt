-- The constraints of tape.rs.
use Rattle.std.specs.Prelude.{List, [], ◌∷◌, ◌++◌}
use Rattle.algebra.specs.Expr.{con, ◌⊕◌, ◌⊖◌, ◌⊗◌}
use Rattle.table.specs.Columns.{COL-TP, COL-IS-EXT-LINE, COL-OP0, COL-OP1, COL-DST, COL-AUX0, COL-S-OP0-START, COL-S-TLOAD, COL-S-TSTORE, COL-S-CALL-SC, COL-FILTER-TAPE-LOOKING}
use Rattle.table.specs.Cells.{lv, nv}
use Rattle.table.specs.Entry.{Entry, constraint, 𝟙}
use Rattle.table.specs.CpuStark.{is_in_same_tx}

-- for tload and tstore: the ext lines
unfoldable pub tape_ext_lines : List Entry
tape_ext_lines =
    -- op0 and op1 not change in ext lines
    constraint ((nv COL-S-TSTORE ⊕ nv COL-S-TLOAD) ⊗ nv COL-IS-EXT-LINE ⊗ (nv COL-OP0 ⊖ lv COL-OP0))
    ∷ constraint ((nv COL-S-TSTORE ⊕ nv COL-S-TLOAD) ⊗ nv COL-IS-EXT-LINE ⊗ (nv COL-OP1 ⊖ lv COL-OP1))
    -- aux0 is addr in ext lines, and increase by one
    ∷ constraint ((lv COL-S-TSTORE ⊕ lv COL-S-TLOAD) ⊗ lv COL-IS-EXT-LINE ⊗ nv COL-IS-EXT-LINE ⊗ (nv COL-AUX0 ⊖ lv COL-AUX0 ⊖ 𝟙))
    -- COL_S_OP0[0] is tape-addr in ext lines, and increase by one in ext lines
    ∷ constraint (lv COL-S-TSTORE ⊗ (𝟙 ⊖ lv COL-IS-EXT-LINE) ⊗ (lv COL-TP ⊖ nv COL-S-OP0-START))
    ∷ constraint (lv COL-S-TSTORE ⊗ lv COL-IS-EXT-LINE ⊗ nv COL-IS-EXT-LINE ⊗ (nv COL-S-OP0-START ⊖ lv COL-S-OP0-START ⊖ 𝟙))
    ∷ constraint (lv COL-S-TSTORE ⊗ (𝟙 ⊖ nv COL-IS-EXT-LINE) ⊗ (nv COL-TP ⊖ lv COL-S-OP0-START ⊖ 𝟙))
    ∷ []

-- from the main line to the first ext line
unfoldable pub tape_first_ext_line : List Entry
tape_first_ext_line =
    -- main and first ext for tload (flag == 1)
    constraint (lv COL-S-TLOAD ⊗ lv COL-OP0 ⊗ (𝟙 ⊖ lv COL-IS-EXT-LINE) ⊗ (nv COL-S-OP0-START ⊕ lv COL-OP1 ⊖ lv COL-TP))
    -- main and first ext for tload (flag == 0)
    ∷ constraint (lv COL-S-TLOAD ⊗ (𝟙 ⊖ lv COL-OP0) ⊗ (𝟙 ⊖ lv COL-IS-EXT-LINE) ⊗ (nv COL-S-OP0-START ⊖ lv COL-OP1))
    ∷ constraint ((lv COL-S-TSTORE ⊕ lv COL-S-TLOAD) ⊗ lv COL-IS-EXT-LINE ⊗ nv COL-IS-EXT-LINE ⊗ (nv COL-S-OP0-START ⊖ lv COL-S-OP0-START ⊖ 𝟙))
    -- for tstore, main op0 equals first ext line's aux0
    ∷ constraint (lv COL-S-TSTORE ⊗ (𝟙 ⊖ lv COL-IS-EXT-LINE) ⊗ (lv COL-OP0 ⊖ nv COL-AUX0))
    -- for tload, main dst equals first ext line's aux0
    ∷ constraint (lv COL-S-TLOAD ⊗ (𝟙 ⊖ lv COL-IS-EXT-LINE) ⊗ (lv COL-DST ⊖ nv COL-AUX0))
    ∷ []

-- tp only changes when tstore last ext line and sccall next line
unfoldable pub tape_tp : List Entry
tape_tp =
    -- not tstore and sccall, tp not change
    constraint (is_in_same_tx ⊗ (𝟙 ⊖ lv COL-S-TSTORE ⊖ nv COL-S-CALL-SC) ⊗ (nv COL-TP ⊖ lv COL-TP))
    -- for tstore, main only last ext line tp change
    ∷ constraint (lv COL-S-TSTORE ⊗ nv COL-IS-EXT-LINE ⊗ (nv COL-TP ⊖ lv COL-TP))
    ∷ constraint (lv COL-S-TSTORE ⊗ (𝟙 ⊖ nv COL-IS-EXT-LINE) ⊗ (nv COL-TP ⊖ lv COL-S-OP0-START ⊖ 𝟙))
    -- for sccall, main tp equals ext line's tp; ext line next tp += 12;
    ∷ constraint ((𝟙 ⊖ lv COL-S-CALL-SC) ⊗ nv COL-S-CALL-SC ⊗ (nv COL-TP ⊖ lv COL-TP))
    ∷ constraint (lv COL-S-CALL-SC ⊗ (𝟙 ⊖ lv COL-IS-EXT-LINE) ⊗ (nv COL-TP ⊖ lv COL-TP))
    ∷ constraint (lv COL-S-CALL-SC ⊗ lv COL-IS-EXT-LINE ⊗ (nv COL-TP ⊖ lv COL-TP ⊖ con 12))
    ∷ []

-- filter for tload and tstore: tstore, tload ext lines
unfoldable pub tape_filter : List Entry
tape_filter =
    constraint (lv COL-FILTER-TAPE-LOOKING ⊗ (𝟙 ⊖ lv COL-FILTER-TAPE-LOOKING))
    -- non tstore, tload, sccall should be 0
    ∷ constraint (lv COL-FILTER-TAPE-LOOKING ⊗ (𝟙 ⊖ lv COL-S-TLOAD ⊖ lv COL-S-TSTORE))
    -- non ext line should be 0
    ∷ constraint (lv COL-FILTER-TAPE-LOOKING ⊗ (𝟙 ⊖ lv COL-IS-EXT-LINE))
    -- tstore/tload ext line should be 1
    ∷ constraint ((lv COL-S-TLOAD ⊕ lv COL-S-TSTORE) ⊗ lv COL-IS-EXT-LINE ⊗ (𝟙 ⊖ lv COL-FILTER-TAPE-LOOKING))
    ∷ []

-- M, 164 to 184
unfoldable pub tape : List Entry
tape = tape_ext_lines ++ tape_first_ext_line ++ tape_tp ++ tape_filter
