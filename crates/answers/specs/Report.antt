-- The report of a run as one record, whether it is turned back or not.
use Rattle.std.specs.Prelude.{ℕ, Result, Ok, Err}
use Rattle.refusals.specs.Refusal.{number}
use Rattle.refusals.specs.declared.Refusal.{Refusal}
use Rattle.answers.specs.declared.Report.{Report as Found}
use Rattle.answers.specs.declared.Spot.{Spot}
use Rattle.answers.specs.declared.Spot.TheVariants.{Clean}

-- `number` is that of its refusal, 0 where there is none
pub record Report : Type 0 where
  pub number : ℕ
  pub pairs : ℕ
  pub failing : ℕ
  pub spot : Spot

-- what an answer tells: of a run that is turned back "the number returns with a zero report (0, 0, none)"
abbrev pub told : Result Found Refusal → Report
told (Ok r) = record { number = 0; pairs = r.pairs; failing = r.failing; spot = r.spot }
told (Err r) = record { number = number r; pairs = 0; failing = 0; spot = Clean }
