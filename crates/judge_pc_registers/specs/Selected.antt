-- What the selected instruction number picks, in the words of the rulebook.
use Rattle.std.specs.Prelude.{◌≡◌, List, [], ◌∷◌, ℕ, ◌%◌, get_or, eqb}
use Rattle.algebra.specs.Prime.{p}
use Rattle.table.specs.Cells.{cells}
use Rattle.table.specs.Columns.{COL-PC}
use Rattle.rulebook.specs.Rule.{Rule, ◌and◌, ◌or◌, holds}
use Rattle.rulebook.specs.Kind.{RET, END, PSDN, SLOAD, CALL-SC}
use Rattle.rulebook.specs.Words.{DIFF, on, main, ◌is◌, ◌among◌}
use Rattle.rulebook.specs.Rulebook.{goes_on}

-- r is where the program counter goes from a row of kind k: PC' of a next row that keeps the rule
pub record GoesTo (row : List ℕ) (k r : ℕ) : Type 0 where
  pub goes : (next : List ℕ) → holds (cells [] row next 0 0) (goes_on k) ≡ eqb (get_or next COL-PC 0 % p) (r % p)

-- where registers 0 to 8 are free: "unless SLOAD, PSDN, CALL_SC with diff, or END main"
abbrev pub registers_free : ℕ → Rule
registers_free k = k among (SLOAD ∷ PSDN ∷ []) or (k is CALL-SC and on DIFF) or (k is END and main)

-- where register 9 is free: "unless RET, CALL_SC with diff, or END"
abbrev pub fp_free : ℕ → Rule
fp_free k = k among (RET ∷ END ∷ []) or (k is CALL-SC and on DIFF)
