-- What the functions of the judge answer.
use Rattle.std.specs.Prelude.{Bool, List, ℕ}
use Rattle.algebra.specs.Lists.{range}
use Rattle.table.specs.Cells.{Cell, cells}
use Rattle.table.specs.Columns.{CTX-REGISTER-NUM, COL-ADDR-STORAGE-RANGE-START, COL-ADDR-CODE-RANGE-START}
use Rattle.rulebook.specs.Rule.{Rule, ◌and◌, Sentence, keeps_all}
use Rattle.rulebook.specs.Words.{kept, every}

-- whether a pair of rows keeps the rules of one group: the masks, the current row, the next row, its kind, whether it is first, or last
abbrev pub keeps_rules : ((Cell → ℕ) → ℕ → List Sentence) → List ℕ → List ℕ → List ℕ → ℕ → Bool → Bool → Bool
keeps_rules rules masks lv nv k first last = keeps_all (cells masks lv nv 0 0) first last (rules (cells masks lv nv 0 0) k)

-- "both addresses kept"
abbrev pub addresses_kept : Rule
addresses_kept = every (range COL-ADDR-STORAGE-RANGE-START CTX-REGISTER-NUM) kept and every (range COL-ADDR-CODE-RANGE-START CTX-REGISTER-NUM) kept
