-- The answers as flat structs.
use Rattle.std.specs.Prelude.{ℕ, ℤ, Result}
use Rattle.refusals.specs.Refusal.{number_of}
use Rattle.refusals.specs.declared.Refusal.{Refusal}
use Rattle.checked_residue.specs.Answer.{value}
use Rattle.field_signed.specs.Answer.{value as signed_value}
use Rattle.answers.specs.declared.Verdict.{Verdict}
use Rattle.answers.specs.Verdict.{keeps_of}
use Rattle.answers.specs.Report.{Report}
use Rattle.answers.specs.Spot.{found, pair_of, value_of}
use Rattle.consumer.specs.declared.ConstraintConsumer.{ConstraintConsumer}
use Rattle.consumer.specs.Consumer.{empty, lent_after}
use Rattle.flat.specs.declared.FelmugoResidue.{FelmugoResidue}
use Rattle.flat.specs.declared.FelmugoSigned.{FelmugoSigned}
use Rattle.flat.specs.declared.FelmugoVerdict.{FelmugoVerdict}
use Rattle.flat.specs.declared.FelmugoReport.{FelmugoReport}
use Rattle.flat.specs.declared.FelmugoOutcome.{FelmugoOutcome}

-- document 01's number and value of a residue entry's answer
abbrev pub flat_residue : Result ℕ Refusal → FelmugoResidue
flat_residue r = record { number = number_of r; value = value r }

-- document 01's number of an answer of the map to signed numbers, and its value
abbrev pub flat_signed : Result ℤ Refusal → FelmugoSigned
flat_signed s = record { number = number_of s; value = signed_value s }

-- document 01's number and meaning of the judge's answer
abbrev pub flat_verdict : Result Verdict Refusal → FelmugoVerdict
flat_verdict v = record { number = number_of v; keeps = keeps_of v }

-- a run's report, its spot as three numbers
abbrev pub flat_report : Report → FelmugoReport
flat_report r =
    record {
      number = r.number;
      pairs = r.pairs;
      failing = r.failing;
      found = found r.spot;
      pair = pair_of r.spot;
      value = value_of r.spot;
    }

-- document 01's number of an answer of `new`, and the consumer: one without places where the call is turned back
abbrev pub flat_outcome : Result ConstraintConsumer Refusal → FelmugoOutcome
flat_outcome r = record { number = number_of r; consumer = lent_after empty r }
