-- The constraints of simple_arithmatic_op.rs.
use Rattle.std.specs.Prelude.{List, [], ◌∷◌}
use Rattle.algebra.specs.Expr.{Expr, ◌⊕◌, ◌⊖◌, ◌⊗◌}
use Rattle.table.specs.Columns.{COL-OPCODE, COL-OP0, COL-OP1, COL-DST, COL-AUX0, COL-S-SIMPLE-ARITHMATIC-OP}
use Rattle.table.specs.Masks.{ADD, MUL, EQ, NEQ, ASSERT}
use Rattle.table.specs.Cells.{Cell, lv, mask}
use Rattle.table.specs.Entry.{Entry, constraint, 𝟙}

-- the selector times what OPCODE differs from four masks by: not zero only for the fifth opcode
unfoldable pub is_op : Expr Cell → Expr Cell → Expr Cell → Expr Cell → Expr Cell
is_op a b c d =
    lv COL-S-SIMPLE-ARITHMATIC-OP ⊗ (lv COL-OPCODE ⊖ a) ⊗ (lv COL-OPCODE ⊖ b) ⊗ (lv COL-OPCODE ⊖ c) ⊗ (lv COL-OPCODE ⊖ d)

abbrev pub is_add : Expr Cell
is_add = is_op (mask MUL) (mask EQ) (mask NEQ) (mask ASSERT)

abbrev pub is_mul : Expr Cell
is_mul = is_op (mask ADD) (mask EQ) (mask NEQ) (mask ASSERT)

abbrev pub is_eq : Expr Cell
is_eq = is_op (mask ADD) (mask MUL) (mask NEQ) (mask ASSERT)

abbrev pub is_neq : Expr Cell
is_neq = is_op (mask ADD) (mask MUL) (mask EQ) (mask ASSERT)

abbrev pub is_assert : Expr Cell
is_assert = is_op (mask ADD) (mask MUL) (mask EQ) (mask NEQ)

abbrev pub op_diff : Expr Cell
op_diff = lv COL-OP0 ⊖ lv COL-OP1

abbrev pub diff_aux : Expr Cell
diff_aux = op_diff ⊗ lv COL-AUX0

abbrev pub res : Expr Cell
res = lv COL-DST

abbrev pub eq_cs : Expr Cell
eq_cs = is_eq ⊗ (res ⊗ op_diff ⊕ (𝟙 ⊖ res) ⊗ (𝟙 ⊖ diff_aux))

abbrev pub neq_cs : Expr Cell
neq_cs = is_neq ⊗ ((𝟙 ⊖ res) ⊗ op_diff ⊕ res ⊗ (𝟙 ⊖ diff_aux))

-- L, 160 to 163
unfoldable pub simple_arithmatic_op : List Entry
simple_arithmatic_op =
    constraint (is_add ⊗ (lv COL-DST ⊖ (lv COL-OP0 ⊕ lv COL-OP1)))
    ∷ constraint (is_mul ⊗ (lv COL-DST ⊖ lv COL-OP0 ⊗ lv COL-OP1))
    -- eq and neq
    ∷ constraint (eq_cs ⊕ neq_cs)
    ∷ constraint (is_assert ⊗ (𝟙 ⊖ lv COL-OP1))
    ∷ []
