-- What the program faults prints on an accepted run, beside the run's report (document 02, 1/12).
use Rattle.std.specs.Prelude.{◌≡◌, ◌↔◌, List, [], ℕ, ◌-◌}
use Rattle.algebra.specs.Lists.{Mem}
use Rattle.answers.specs.Report.{Report}
use Rattle.answers.specs.declared.Spot.TheVariants.{Clean}
use Rattle.field_signed.specs.Signed.{residue_of}
use Rattle.stream_text.specs.Faults.{Fault, faults_from, faults_text, faults_of_pair}
use Rattle.stream_text.specs.Listed.{Listed, value_at, pairs_on, distinct_count, first_on}
use Rattle.stream_model.specs.Model.{output_of}

-- of an input, the values of its run's pairs, and the run's report
pub record FaultsTold (input : List ℕ) (pairs : List (List ℕ)) (report : Report) : Type 0 where
  -- it prints a line for each fault, and nothing else
  pub prints : output_of faults_of_pair input ≡ faults_text (faults_from 0 pairs)
  -- "one line for each and no other, pairs rising, numbers rising within a pair"
  pub listed : Listed pairs (faults_from 0 pairs)
  -- there is none exactly where the report is clean; as many pairs are on the lines as the report says fail; the first is the report's spot
  pub clean : (faults_from 0 pairs ≡ []) ↔ (report.spot ≡ Clean)
  pub failing : distinct_count (pairs_on (faults_from 0 pairs)) ≡ report.failing
  pub first : first_on (faults_from 0 pairs) ≡ report.spot
  -- a line's signed number gives back the value
  pub back : (f : Fault) → Mem f (faults_from 0 pairs) → residue_of f.signed ≡ value_at pairs f.pair (f.number - 1)
