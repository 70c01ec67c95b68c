-- The differences of the context registers, times a number.
use Rattle.std.specs.Prelude.{List, [], ◌∷◌, ℕ, ◌+◌}
use Rattle.algebra.specs.Expr.{con, ◌⊖◌, ◌⊗◌}
use Rattle.table.specs.Columns.{CTX-REGISTER-NUM, COL-ADDR-STORAGE-RANGE-START, COL-ADDR-CODE-RANGE-START}
use Rattle.table.specs.Cells.{lv, nv}
use Rattle.table.specs.Entry.{Entry, constraint, each}

abbrev pub ctx_difference : ℕ → ℕ → Entry
ctx_difference f c = constraint (con f ⊗ (nv c ⊖ lv c))

-- f times what each context register differs by in the next row: of the storage address and of the code address in turn
unfoldable pub ctx_differences : ℕ → List Entry
ctx_differences f =
    each CTX-REGISTER-NUM
    (λ i. ctx_difference f (COL-ADDR-STORAGE-RANGE-START + i) ∷ ctx_difference f (COL-ADDR-CODE-RANGE-START + i) ∷ [])
