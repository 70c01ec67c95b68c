-- The kind of an instruction: "a number 0 to 18", in the source's order of the selectors.
use Rattle.std.specs.Prelude.{cond, List, [], ◌∷◌, ℕ, zero, suc, ◌+◌, eqb}
use Rattle.table.specs.Cells.{Cell, local}
use Rattle.table.specs.Columns.{COL-S-SIMPLE-ARITHMATIC-OP, NUM-OP-SELECTOR}

abbrev pub SIMPLE-ARITHMATIC-OP : ℕ
SIMPLE-ARITHMATIC-OP = 0

abbrev pub MOV : ℕ
MOV = 1

abbrev pub JMP : ℕ
JMP = 2

abbrev pub CJMP : ℕ
CJMP = 3

abbrev pub CALL : ℕ
CALL = 4

abbrev pub RET : ℕ
RET = 5

abbrev pub MLOAD : ℕ
MLOAD = 6

abbrev pub MSTORE : ℕ
MSTORE = 7

abbrev pub END : ℕ
END = 8

abbrev pub RC : ℕ
RC = 9

abbrev pub BITWISE : ℕ
BITWISE = 10

abbrev pub NOT : ℕ
NOT = 11

abbrev pub GTE : ℕ
GTE = 12

abbrev pub PSDN : ℕ
PSDN = 13

abbrev pub SLOAD : ℕ
SLOAD = 14

abbrev pub SSTORE : ℕ
SSTORE = 15

abbrev pub TLOAD : ℕ
TLOAD = 16

abbrev pub TSTORE : ℕ
TSTORE = 17

abbrev pub CALL-SC : ℕ
CALL-SC = 18

-- how many of the n numbers g a, g (a + 1), .. are 1, and the place of the first of them that is
unfoldable pub ones : (ℕ → ℕ) → ℕ → ℕ → ℕ
ones g a zero = 0
ones g a (suc n) = cond (eqb (g a) 1) 1 0 + ones g (suc a) n

unfoldable pub first_one : (ℕ → ℕ) → ℕ → ℕ → ℕ
first_one g a zero = 0
first_one g a (suc n) = cond (eqb (g a) 1) 0 (suc (first_one g (suc a) n))

-- the kind of the current row: the place of the first selector that is 1 (19 where there is none)
unfoldable pub kind_of : (Cell → ℕ) → ℕ
kind_of x = first_one (λ c. x (local c)) COL-S-SIMPLE-ARITHMATIC-OP NUM-OP-SELECTOR

-- case by case: what stands beside the kind k, or else d
abbrev pub choose {ℓ} : {A : Type ℓ} → ℕ → List (ℕ × A) → A → A
choose k [] d = d
choose k (c ∷ cs) d = cond (eqb k c.0) c.1 (choose k cs d)
