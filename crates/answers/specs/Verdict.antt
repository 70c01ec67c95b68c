-- A verdict as a number, and the verdict on a pair.
use Rattle.std.specs.Prelude.{Bool, cond, ℕ, Result, Ok, Err}
use Rattle.refusals.specs.declared.Refusal.{Refusal}
use Rattle.answers.specs.declared.Verdict.{Verdict}
use Rattle.answers.specs.declared.Verdict.TheVariants.{Keeps, Breaks}

-- document 01's meaning for each case, beside the number (`number_of`): 1 for "keeps", else 0
abbrev pub keeps_of : Result Verdict Refusal → ℕ
keeps_of (Ok Keeps) = 1
keeps_of (Ok Breaks) = 0
keeps_of (Err _) = 0

-- "keeps" where every rule is kept, else "breaks"
abbrev pub judged : Bool → Verdict
judged keeps = cond keeps Keeps Breaks
