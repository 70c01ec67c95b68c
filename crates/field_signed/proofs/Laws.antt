-- The signed form by the size of the residue, and what the two maps answer.
use mathlib.Core.Path.{◌≡◌, refl}
use mathlib.Core.Bool.{Bool, true, false}
use Prim.Native.Nat.{ℕ, suc, ◌-◌, ◌<◌, ◌≤◌}
use lib.IntN.{ℤ, pos, negsuc, nat_abs}
use lib.Dec.{leb}
use borrow.Author.Tests.{le-leb, lt-leb, leb-true, leb-false, lt-ltb, le-ltb}
use native.Mathlib.Omega.{arith}
use Rattle.algebra.specs.Prime.{p}
use Rattle.refusals.specs.Refusal.{canonical, greatest}
use Rattle.std.specs.Prelude.{Ok, Err}
use Rattle.field_signed.specs.Signed.{signed_of, residue_of, InRange}
use Rattle.field_signed.specs.Answer.{to_signed, to_residue}
use Rattle.refusals.specs.declared.Refusal.TheVariants.{NotBelowP}

module _ (r : ℕ) where
  pub as_it_is : r ≤ greatest → signed_of r ≡ pos r
  unfolding signed_of
  as_it_is h = simp (le-leb _ _ h)

  pub minus-p : greatest < r → r < p → signed_of r ≡ negsuc (p - suc r)
  unfolding signed_of
  minus-p h k = simp (lt-leb _ _ h, lt-ltb _ _ k)

  -- `negsuc n` is -(n + 1): its digits are those of p - r
  pub distance_to_p : r < p → suc (p - suc r) ≡ p - r
  distance_to_p h = omega arith

  -- what holds of either form holds of the signed form of a residue
  pub by_size : (P : ℤ → Type 0) → r < p → (r ≤ greatest → P (pos r)) → (greatest < r → P (negsuc (p - suc r)))
      → P (signed_of r)
  by_size P k small large = go (leb r greatest) refl
    where
      go : (b : Bool) → leb r greatest ≡ b → P (signed_of r)
      go true e = let h : r ≤ greatest = leb-true _ _ e in rw as_it_is (small h)
      go false e = let h : greatest < r = leb-false _ _ e in rw minus-p (large h)

  pub signed_given : r < p → to_signed r ≡ Ok (signed_of r)
  unfolding canonical
  signed_given h = simp (lt-ltb _ _ h)

  pub signed_refused : p ≤ r → to_signed r ≡ Err NotBelowP
  unfolding canonical
  signed_refused h = simp (le-ltb _ _ h)

module _ (z : ℤ) where
  pub residue_given : InRange z → to_residue z ≡ Ok (residue_of z)
  residue_given h = simp (le-ltb _ _ h)

  pub residue_refused : greatest < nat_abs z → to_residue z ≡ Err NotBelowP
  residue_refused h = simp (lt-ltb _ _ h)
