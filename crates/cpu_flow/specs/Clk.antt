-- The value that the constraints of the clock and of the program counter both begin with (145 and 147).
use Rattle.algebra.specs.Expr.{Expr, ◌⊖◌, ◌⊗◌}
use Rattle.table.specs.Columns.{COL-CLK, COL-IS-EXT-LINE, COL-S-END}
use Rattle.table.specs.Cells.{Cell, lv, nv}
use Rattle.table.specs.Entry.{𝟙}

abbrev pub clk_kept : Expr Cell
clk_kept = nv COL-IS-EXT-LINE ⊗ (𝟙 ⊖ nv COL-S-END) ⊗ (nv COL-CLK ⊖ lv COL-CLK)
