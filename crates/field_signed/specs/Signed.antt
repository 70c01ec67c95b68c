-- The signed form of a residue (document 02, 1/12).
use Rattle.std.specs.Prelude.{cond, ℕ, suc, ◌-◌, ◌≤◌, ℤ, pos, negsuc, nat_abs, ◌-ℤ◌, leb}
use Rattle.algebra.specs.Prime.{p}
use Rattle.refusals.specs.Refusal.{greatest}

-- "A residue up to 9223372034707292160 is printed as it is, a larger one as itself minus p."
unfoldable pub signed_of : ℕ → ℤ
signed_of r = cond (leb r greatest) (pos r) (pos r -ℤ pos p)

-- the way back: a number that is not negative is itself, and a negative one, `negsuc n` being -(n + 1), is itself plus p
abbrev pub residue_of : ℤ → ℕ
residue_of (pos n) = n
residue_of (negsuc n) = p - suc n

-- "that whole range": -9223372034707292160 to 9223372034707292160
abbrev pub InRange : ℤ → Type 0
InRange z = nat_abs z ≤ greatest
