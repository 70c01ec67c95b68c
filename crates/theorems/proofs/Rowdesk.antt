-- On an accepted run rowdesk prints the lines of its pairs, and they agree with the run's report.
use mathlib.Core.Path.{◌≡◌, refl, sym, ap, ◌∙◌}
use mathlib.Core.Bool.{cond}
use mathlib.Core.List.{List, [], ◌∷◌, ◌++◌}
use Prim.Native.Nat.{ℕ, suc, ◌+◌, ◌*◌}
use lib.ListN.{length}
use lib.Dec.{eqb}
use Rattle.tally.specs.Tally.{nonzeros, first_from}
use Rattle.run_pairs.specs.Run.{pairs_of, run_refusal}
use Rattle.runs.specs.Report.{failing, spot_from, report_of}
use Rattle.answers.specs.Report.{Report}
use Rattle.answers.specs.declared.Spot.{Spot}
use Rattle.answers.specs.declared.Spot.TheVariants.{At}
use Rattle.runs.proofs.Found.{report_done}
use Rattle.stream_text.specs.PairLines.{Line, line_of_pair, lines_from, text_of, failing_lines, first_failing}
use Rattle.stream_model.specs.Model.{output_of, texts_from, masks_in, run_in}
use Rattle.stream_model.proofs.Printed.{prints_texts}

-- the texts that rowdesk prints of pairs are the lines of these pairs
texts_lines : (i : ℕ) (pairs : List (List ℕ)) → texts_from line_of_pair i pairs ≡ text_of (lines_from i pairs)
unfolding texts_from text_of lines_from
texts_lines i [] = refl
texts_lines i (vs ∷ pairs) = ap (λ (l : List ℕ). line_of_pair i vs ++ l) (texts_lines (suc i) pairs)

-- the lines of pairs tell what the report tells of them
failing_lines_lem : (i : ℕ) (pairs : List (List ℕ)) → failing_lines (lines_from i pairs) ≡ failing pairs
unfolding failing_lines lines_from failing
failing_lines_lem i [] = refl
failing_lines_lem i (vs ∷ pairs) = ap (λ (n : ℕ). cond (eqb (nonzeros vs) 0) n (suc n)) (failing_lines_lem (suc i) pairs)

first-failing : (i : ℕ) (pairs : List (List ℕ)) → first_failing (lines_from i pairs) ≡ spot_from i pairs
unfolding first_failing lines_from spot_from
first-failing i [] = refl
first-failing i (vs ∷ pairs) = ap (λ (s : Spot). cond (eqb (nonzeros vs) 0) s (At i (first_from 1 vs))) (first-failing (suc i) pairs)

count_lines : (i : ℕ) (pairs : List (List ℕ)) → length (lines_from i pairs) ≡ length pairs
unfolding lines_from
count_lines i [] = refl
count_lines i (vs ∷ pairs) = ap suc (count_lines (suc i) pairs)

-- an input of 25 masks and n rows that the report does not turn back
module _ (input : List ℕ) (n : ℕ) (size : length input ≡ 200 + 752 * n) (accepted : run_refusal (run_in n input) (masks_in input) ≡ 0) where
  abbrev pub lines : List Line
  lines = lines_from 0 (pairs_of (run_in n input) (masks_in input))

  -- rowdesk prints the lines of the run's pairs, in order, and nothing else
  pub prints_lines : output_of line_of_pair input ≡ text_of lines
  prints_lines = prints_texts line_of_pair input n size accepted ∙ texts_lines 0 (pairs_of (run_in n input) (masks_in input))

  -- as many lines as the report has pairs; those whose count is not 0 are its failing pairs, the first of them its spot
  pub agrees_with_report : (length lines ≡ (report_of (run_in n input) (masks_in input)).pairs)
      × (failing_lines lines ≡ (report_of (run_in n input) (masks_in input)).failing)
      × (first_failing lines ≡ (report_of (run_in n input) (masks_in input)).spot)
  agrees_with_report =
      let pairs = pairs_of (run_in n input) (masks_in input) in
      let r = sym (report_done (run_in n input) (masks_in input) accepted) in (
        count_lines 0 pairs ∙ ap (λ (t : Report). t.pairs) r,
        failing_lines_lem 0 pairs ∙ ap (λ (t : Report). t.failing) r,
        first-failing 0 pairs ∙ ap (λ (t : Report). t.spot) r,
      )
