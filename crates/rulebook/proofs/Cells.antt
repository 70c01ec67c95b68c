-- A cell as a line (0 the current row, 1 the next row, 2 the masks, 3 and 4 the weights) and a place in it: so told, cells are compared
-- and put in order.
use mathlib.Core.Path.{◌≡◌, refl, sym, ap₂, ◌∙◌}
use mathlib.Core.Bool.{Bool, true, ◌&&◌}
use Prim.Native.Nat.{ℕ, zero, suc, ◌+◌, ◌*◌}
use lib.Dec.{eqb}
use borrow.Author.Tests.{eqb-true}
use Rattle.table.specs.Cells.{Cell, local, next, mask_at, z_last, lagrange_basis_first}
use Rattle.table.specs.Columns.{NUM-CPU-COLS}
use Rattle.rulebook.proofs.Tests.{and_left, and_right}

abbrev pub line : Cell → ℕ
line (local c) = 0
line (next c) = 1
line (mask_at i) = 2
line z_last = 3
line lagrange_basis_first = 4

abbrev pub place : Cell → ℕ
place (local c) = c
place (next c) = c
place (mask_at i) = i
place z_last = 0
place lagrange_basis_first = 0

abbrev pub cell : ℕ → ℕ → Cell
cell zero c = local c
cell (suc zero) c = next c
cell (suc (suc zero)) c = mask_at c
cell (suc (suc (suc zero))) c = z_last
cell (suc (suc (suc (suc l)))) c = lagrange_basis_first

pub cell_is : (c : Cell) → cell (line c) (place c) ≡ c
cell_is (local c) = refl
cell_is (next c) = refl
cell_is (mask_at i) = refl
cell_is z_last = refl
cell_is lagrange_basis_first = refl

abbrev pub same_cell : Cell → Cell → Bool
same_cell c d = eqb (line c) (line d) && eqb (place c) (place d)

pub same_cell_eq : (c d : Cell) → same_cell c d ≡ true → c ≡ d
same_cell_eq c d h =
    sym (cell_is c)
    ∙ ap₂ cell (eqb-true (line c) (line d) (and_left _ _ h)) (eqb-true (place c) (place d) (and_right (eqb (line c) (line d)) _ h))
    ∙ cell_is d

-- a number by which the cells of a product are put in order
abbrev pub number : Cell → ℕ
number c = line c * NUM-CPU-COLS + place c + 1
