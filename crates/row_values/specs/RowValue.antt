-- A value of one row, unless the row is turned back.
use Rattle.std.specs.Prelude.{List, [], ◌∷◌, ℕ, Result, Ok}
use Rattle.algebra.specs.Expr.{Expr, eval}
use Rattle.refusals.specs.Refusal.{Condition, lowest, unless, row_length, row_contents, refused}
use Rattle.refusals.specs.declared.Refusal.{Refusal}
use Rattle.residue.specs.Residues.{residues}
use Rattle.table.specs.Cells.{Cell, cells}

abbrev pub row_conditions : List ℕ → List Condition
row_conditions row = row_length row ∷ row_contents row ∷ []

-- what an expression of the current row's columns is
unfoldable pub row_value : Expr Cell → List ℕ → Result ℕ Refusal
row_value e row = unless (lowest (row_conditions row)) refused (Ok (eval residues (cells [] row [] 0 0) e))
