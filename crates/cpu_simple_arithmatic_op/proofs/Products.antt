-- Products of which some factors are multiplied first.
use mathlib.Core.Path.{◌≡◌, sym, ◌∙◌}
use Prim.Native.Nat.{ℕ}
use Rattle.residue.specs.Residues.{mul_p}
use Rattle.residue.proofs.Laws.{mul_p_assoc, mul_p-right_comm}

pub last_two : (s d e : ℕ) → mul_p s (mul_p d e) ≡ mul_p (mul_p s d) e
last_two s d e = sym (mul_p_assoc s d e)

-- three factors that are multiplied first, and applied before another
pub last_three : (s a c d e : ℕ) → mul_p (mul_p s (mul_p c (mul_p d e))) a ≡ mul_p (mul_p (mul_p (mul_p s a) c) d) e
last_three s a c d e =
    sym (mul_p_assoc (mul_p (mul_p s a) c) d e ∙ mul_p_assoc (mul_p s a) c (mul_p d e) ∙ mul_p-right_comm s a (mul_p c (mul_p d e)))
