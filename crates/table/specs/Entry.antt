-- Entries of the constraint table and their values, over any operations.
use Rattle.std.specs.Prelude.{List, [], ◌++◌, map, ℕ, zero, suc}
use Rattle.algebra.specs.Ring.{Ops}
use Rattle.algebra.specs.Expr.{Expr, var, con, ◌⊕◌, ◌⊗◌, eval}
use Rattle.table.specs.Cells.{Cell, z_last, lagrange_basis_first}

-- where a constraint holds: on every row, on every row but the last, on the first row
pub data Kind : Type 0 where
  plain transition first : Kind

pub record Entry : Type 0 where
  pub kind : Kind
  pub expr : Expr Cell

-- the three calls of a `ConstraintConsumer`
abbrev pub constraint : Expr Cell → Entry
constraint e = record { kind = plain; expr = e }

abbrev pub constraint_transition : Expr Cell → Entry
constraint_transition e = record { kind = transition; expr = e }

abbrev pub constraint_first_row : Expr Cell → Entry
constraint_first_row e = record { kind = first; expr = e }

-- "A transition value is first multiplied by z_last, a first-row value by lagrange_basis_first" (document 01)
abbrev pub weighted_by : Kind → Expr Cell → Expr Cell
weighted_by plain e = e
weighted_by transition e = e ⊗ var z_last
weighted_by first e = e ⊗ var lagrange_basis_first

-- the values, each with its weight applied
unfoldable pub values : (R : Ops) → (Cell → R.F) → List Entry → List R.F
values R env es = map (λ e. eval R env (weighted_by e.kind e.expr)) es

-- P::ONES
abbrev pub 𝟙 : Expr Cell
𝟙 = con 1

-- a + f 0 + f 1 + .. + f (n - 1), from the left, as Rust's `+=` in a loop
unfoldable pub plus_all : Expr Cell → (ℕ → Expr Cell) → ℕ → Expr Cell
plus_all a f zero = a
plus_all a f (suc n) = plus_all a f n ⊕ f n

-- 0 + f 0 + f 1 + .. + f (n - 1), as Rust's `sum`
abbrev pub sum : (ℕ → Expr Cell) → ℕ → Expr Cell
sum f n = plus_all (con 0) f n

-- f 0, f 1, .., f (n - 1), one after the other, as a loop yields them
unfoldable pub each : ℕ → (ℕ → List Entry) → List Entry
each zero f = []
each (suc n) f = each n f ++ f n
