-- A number times all but one of five others.
use Rattle.std.specs.Prelude.{List, [], ◌∷◌, ℕ}
use Rattle.residue.specs.Residues.{mul_p}

abbrev times_four : ℕ → ℕ → ℕ → ℕ → ℕ → ℕ
times_four s a b c d = mul_p (mul_p (mul_p (mul_p s a) b) c) d

-- the first left out, then the second, and so on
unfoldable pub all_but_one : ℕ → ℕ → ℕ → ℕ → ℕ → ℕ → List ℕ
all_but_one s a b c d e =
    times_four s b c d e ∷ times_four s a c d e ∷ times_four s a b d e ∷ times_four s a b c e ∷ times_four s a b c d ∷ []
