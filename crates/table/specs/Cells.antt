-- What a constraint reads: the current row (`lv`), the next row (`nv`), the masks, and the two weights.
use Rattle.std.specs.Prelude.{List, ℕ, get_or}
use Rattle.algebra.specs.Expr.{Expr, var}

pub data Cell : Type 0 where
  local next mask_at : ℕ → Cell
  z_last lagrange_basis_first : Cell

abbrev pub lv : ℕ → Expr Cell
lv c = var (local c)

abbrev pub nv : ℕ → Expr Cell
nv c = var (next c)

abbrev pub mask : ℕ → Expr Cell
mask i = var (mask_at i)

-- what each cell holds, for the masks, a pair of rows, z_last and lagrange_basis_first
abbrev pub cells : List ℕ → List ℕ → List ℕ → ℕ → ℕ → Cell → ℕ
cells masks lv nv z f (local c) = get_or lv c 0
cells masks lv nv z f (next c) = get_or nv c 0
cells masks lv nv z f (mask_at i) = get_or masks i 0
cells masks lv nv z f z_last = z
cells masks lv nv z f lagrange_basis_first = f
