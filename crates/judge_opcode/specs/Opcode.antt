-- The masks of an instruction kind, in the words of the rulebook.
use Rattle.std.specs.Prelude.{ℕ}
use Rattle.table.specs.Cells.{lv, mask}
use Rattle.table.specs.Columns.{COL-OPCODE}
use Rattle.rulebook.specs.Rule.{Rule, ◌≐◌}
use Rattle.rulebook.specs.Words.{some}
use Rattle.rulebook.specs.Rulebook.{masks_of}

-- OPCODE is a mask of the kind k
abbrev pub opcode_of : ℕ → Rule
opcode_of k = some (masks_of k) (λ j. lv COL-OPCODE ≐ mask j)
