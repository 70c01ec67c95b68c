-- "Per pair .. count of nonzero values, lowest such number or 0" (document 01).
use Rattle.std.specs.Prelude.{cond, List, [], ◌∷◌, ℕ, suc, eqb}
use Rattle.tally.specs.declared.Tally.{Tally}

-- how many values are not 0
unfoldable pub nonzeros : List ℕ → ℕ
nonzeros [] = 0
nonzeros (v ∷ vs) = cond (eqb v 0) (nonzeros vs) (suc (nonzeros vs))

-- the number of the first value that is not 0, where the first of the list has the number k; 0 where all are 0
unfoldable pub first_from : ℕ → List ℕ → ℕ
first_from k [] = 0
first_from k (v ∷ vs) = cond (eqb v 0) (first_from (suc k) vs) k

-- values are numbered from 1
abbrev pub tally_of : List ℕ → Tally
tally_of vs = record { count = nonzeros vs; lowest = first_from 1 vs }
