-- "Signed and residue form map to each other without loss over that whole range." (document 02, 1/12), which
-- proofs/OneToOne.antt proves.
use Rattle.std.specs.Prelude.{◌≡◌, ◌↔◌, ℕ, ◌+◌, ◌<◌, ℤ, Ok}
use Rattle.algebra.specs.Prime.{p}
use Rattle.refusals.specs.Refusal.{greatest}
use Rattle.field_signed.specs.Signed.{signed_of, residue_of, InRange}
use Rattle.field_signed.specs.Answer.{to_signed, to_residue}

pub record OneToOne : Type 0 where
  -- the range has p numbers: 0, and as many above it as below
  pub numbers : 1 + greatest + greatest ≡ p
  -- each of the p residues is given a number of the range, and each number of the range one of the p residues
  pub in_range : (r : ℕ) → r < p → InRange (signed_of r)
  pub below : (z : ℤ) → InRange z → residue_of z < p
  -- there and back is where it began, from either side
  pub back : (r : ℕ) → r < p → residue_of (signed_of r) ≡ r
  pub forth : (z : ℤ) → InRange z → signed_of (residue_of z) ≡ z
  -- the entries refuse none of them, and each answers exactly where the other answers back
  pub signed_given : (r : ℕ) → r < p → to_signed r ≡ Ok (signed_of r)
  pub residue_given : (z : ℤ) → InRange z → to_residue z ≡ Ok (residue_of z)
  pub exactly_where : (r : ℕ) (z : ℤ) → (to_signed r ≡ Ok z) ↔ (to_residue z ≡ Ok r)
