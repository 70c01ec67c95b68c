-- The opcode that the selectors choose, as the code sums it.
use Prim.Native.Nat.{ℕ, ◌+◌, ◌<◌}
use mathlib.Core.Path.{◌≡◌}
use native.Mathlib.Omega.{arith}
use lib.Dec.{lit<}
use Rattle.algebra.specs.Prime.{p}
use Rattle.algebra.specs.Expr.{con, ◌⊗◌, eval}
use Rattle.residue.specs.Residues.{add_p, mul_p, residues}
use Rattle.residue.proofs.Laws.{add_p-lt}
use Rattle.table.specs.Columns.{COL-S-MOV, COL-S-RC, COL-S-NOT}
use Rattle.table.specs.Masks as M
use Rattle.table.specs.Cells.{Cell, local, mask_at, lv, mask}
use Rattle.table.specs.Entry.{plus_all}
use Rattle.table.specs.CpuStark.{cal_opcode}

-- the opcodes' sum without the selectors that count 0
add_p-mul_p-zero : (a x : ℕ) → a < p → add_p a (mul_p x 0) ≡ a
unfolding add_p mul_p
add_p-mul_p-zero a x h = omega arith

pub opcode_parts : (env : Cell → ℕ) →
    eval residues env cal_opcode
    ≡ eval residues env (plus_all (plus_all (con 0) (λ i. lv (COL-S-MOV + i) ⊗ mask (M.MOV + i)) 9) (λ i. lv (COL-S-NOT + i) ⊗ mask (M.NOT + i)) 8)
unfolding eval plus_all cal_opcode
opcode_parts env = rw (add_p-mul_p-zero 0 _ (lit< tt), add_p-mul_p-zero (add_p _ (mul_p (env (local COL-S-RC)) (env (mask_at M.RC)))) _ (add_p-lt _ _))
