-- "The report has pairs, failing pairs, and the first failing spot" (document 01).
use Rattle.std.specs.Prelude.{cond, List, [], ◌∷◌, ℕ, suc, length, eqb}
use Rattle.answers.specs.Report.{Report}
use Rattle.answers.specs.declared.Spot.{Spot}
use Rattle.answers.specs.declared.Spot.TheVariants.{Clean, At}
use Rattle.refusals.specs.Refusal.{unless}
use Rattle.tally.specs.Tally.{nonzeros, first_from}
use Rattle.run_pairs.specs.Run.{pairs_of, run_refusal}

-- "A pair fails when one of its values is not 0": how many of the pairs fail
unfoldable pub failing : List (List ℕ) → ℕ
failing [] = 0
failing (vs ∷ pairs) = cond (eqb (nonzeros vs) 0) (failing pairs) (suc (failing pairs))

-- "the spot is the lowest failing pair and its lowest nonzero value": the first of the list is pair i
unfoldable pub spot_from : ℕ → List (List ℕ) → Spot
spot_from i [] = Clean
spot_from i (vs ∷ pairs) = cond (eqb (nonzeros vs) 0) (spot_from (suc i) pairs) (At i (first_from 1 vs))

abbrev pub reported : List (List ℕ) → Report
reported pairs = record { number = 0; pairs = length pairs; failing = failing pairs; spot = spot_from 0 pairs }

-- "The number returns with a zero report (0, 0, none)"
abbrev pub zero_report : ℕ → Report
zero_report number = record { number = number; pairs = 0; failing = 0; spot = Clean }

-- the report of a run
unfoldable pub report_of : List ℕ → List ℕ → Report
report_of run masks = unless (run_refusal run masks) zero_report (reported (pairs_of run masks))
