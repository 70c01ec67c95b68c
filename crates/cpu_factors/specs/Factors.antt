-- Products of a row's selectors and flags that several constraints of tape.rs and call_sc.rs begin with.
use Rattle.algebra.specs.Expr.{Expr, ◌⊕◌, ◌⊖◌, ◌⊗◌}
use Rattle.table.specs.Columns.{COL-IS-EXT-LINE, COL-S-TLOAD, COL-S-TSTORE, COL-S-CALL-SC, COL-S-END}
use Rattle.table.specs.Cells.{Cell, lv}
use Rattle.table.specs.Entry.{𝟙}
use Rattle.table.specs.CpuStark.{is_crossing_inst}

abbrev pub call_sc_main_line : Expr Cell
call_sc_main_line = lv COL-S-CALL-SC ⊗ (𝟙 ⊖ lv COL-IS-EXT-LINE)

abbrev pub call_sc_ext_line : Expr Cell
call_sc_ext_line = lv COL-S-CALL-SC ⊗ lv COL-IS-EXT-LINE

abbrev pub after_call_sc : Expr Cell
after_call_sc = lv COL-S-CALL-SC ⊗ is_crossing_inst

abbrev pub end_ext_line : Expr Cell
end_ext_line = lv COL-S-END ⊗ lv COL-IS-EXT-LINE

abbrev pub tape_ext_line : Expr Cell
tape_ext_line = (lv COL-S-TSTORE ⊕ lv COL-S-TLOAD) ⊗ lv COL-IS-EXT-LINE

abbrev pub tstore_main_line : Expr Cell
tstore_main_line = lv COL-S-TSTORE ⊗ (𝟙 ⊖ lv COL-IS-EXT-LINE)
