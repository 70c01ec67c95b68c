-- The first failing spot of a run as numbers.
use Rattle.std.specs.Prelude.{ℕ}
use Rattle.answers.specs.declared.Spot.{Spot}
use Rattle.answers.specs.declared.Spot.TheVariants.{Clean, At}

-- a spot as numbers, for each of its cases: 1, the pair and the value's number, or zeros where there is none
abbrev pub found : Spot → ℕ
found Clean = 0
found (At pair value) = 1

abbrev pub pair_of : Spot → ℕ
pair_of Clean = 0
pair_of (At pair value) = pair

abbrev pub value_of : Spot → ℕ
value_of Clean = 0
value_of (At pair value) = value
