-- What is meant by a straight-line program being a list of constraints.
use Rattle.std.specs.Prelude.{◌≡◌, List, ◌∷◌, ◌++◌, map, ℕ, T, length, take}
use Rattle.algebra.specs.Lists.{range}
use Rattle.algebra.specs.Expr.{Expr, var, con, ◌⊕◌, ◌⊖◌, ◌⊗◌}
use Rattle.table.specs.Columns.{NUM-CPU-COLS}
use Rattle.table.specs.Masks.{NUM-MASKS}
use Rattle.table.specs.Cells.{Cell, local, next, mask_at, z_last, lagrange_basis_first, lv, nv, mask}
use Rattle.table.specs.Entry.{Kind, plain, transition, first, Entry, weighted_by}
use Rattle.straight_line.specs.Program.{on_exprs, run, fits}

-- what a program starts from: the current row, the next row, the masks, the two weights, its constants
unfoldable pub inputs : List ℕ → List (Expr Cell)
inputs constants =
    map lv (range 0 NUM-CPU-COLS)
    ++ (map nv (range 0 NUM-CPU-COLS)
    ++ (map mask (range 0 NUM-MASKS)
    ++ (var z_last ∷ var lagrange_basis_first ∷ map con constants)))

-- the kind of a weighted expression: a weight is its last factor
abbrev cell_kind : Cell → Kind
cell_kind (local c) = plain
cell_kind (next c) = plain
cell_kind (mask_at i) = plain
cell_kind z_last = transition
cell_kind lagrange_basis_first = first

abbrev factor_kind : Expr Cell → Kind
factor_kind (var c) = cell_kind c
factor_kind (con n) = plain
factor_kind (a ⊕ b) = plain
factor_kind (a ⊖ b) = plain
factor_kind (a ⊗ b) = plain

abbrev pub kind_of : Expr Cell → Kind
kind_of (var c) = plain
kind_of (con n) = plain
kind_of (a ⊕ b) = plain
kind_of (a ⊖ b) = plain
kind_of (a ⊗ b) = factor_kind b

-- what a program leaves first: n expressions
abbrev pub leaves : ℕ → List ℕ → List ℕ → List (Expr Cell)
leaves n constants ws = take n (run (on_exprs Cell) ws (inputs constants))

-- every word has its operands; what the program leaves first are these constraints, weights applied, operand for operand; and their kinds
-- can be read off
pub record Means (constants ws : List ℕ) (es : List Entry) : Type 0 where
  pub fit : T (fits (length (inputs constants)) ws)
  pub weighted : leaves (length es) constants ws ≡ map (λ e. weighted_by e.kind e.expr) es
  pub kinds : map kind_of (leaves (length es) constants ws) ≡ map (λ e. e.kind) es
