-- On an accepted run the program faults prints a line for each value that is not 0, and the lines agree with the run's report.
use mathlib.Core.Path.{◌≡◌, refl, sym, ap, ◌∙◌}
use mathlib.Core.Bool.{cond}
use mathlib.Core.List.{List, [], ◌∷◌, ◌++◌}
use Prim.Native.Nat.{ℕ, zero, suc, ◌+◌, ◌*◌, ◌<◌}
use native.Mathlib.Omega.{arith}
use borrow.Author.Tests.{eqb-false}
use lib.ListN.{length}
use lib.Dec.{eqb, lit<}
use Rattle.algebra.specs.Prime.{p}
use Rattle.algebra.specs.Lists.{All}
use Rattle.tally.specs.Tally.{nonzeros, first_from}
use Rattle.table.specs.Rows.{Row}
use Rattle.rulebook.proofs.Pair.{values-canonical, canonical-cells}
use Rattle.run_pairs.specs.Run.{row_at, row_count, is_last_pair, next_row_index, last_weight, first_weight, pair_at, tabulate, pairs_of, run_refusal}
use Rattle.run_pairs.proofs.Parts.{accepted, some-row, row_is}
use Rattle.runs.specs.Report.{failing, spot_from, report_of}
use Rattle.runs.proofs.Found.{report_done}
use Rattle.answers.specs.Report.{Report}
use Rattle.answers.specs.declared.Spot.{Spot}
use Rattle.answers.specs.declared.Spot.TheVariants.{Clean, At}
use Rattle.answers.specs.Spot.{found}
use Rattle.stream_text.specs.Faults.{Fault, faults_from, faults_text, faults_of_pair}
use Rattle.stream_text.specs.Listed.{pairs_on, distinct_count, first_on}
use Rattle.stream_text.proofs.Listed.{listed, value-back}
use Rattle.stream_text.proofs.Tells.{first_step, distinct-step, text-step}
use Rattle.stream_model.specs.Model.{texts_from, masks_in, run_in}
use Rattle.stream_model.proofs.Laws.{by_cases}
use Rattle.stream_model.proofs.Printed.{prints_texts}
use Rattle.theorems.specs.Faults.{FaultsTold}

-- the texts that faults prints of pairs are the lines of their faults
texts_faults : (i : ℕ) (pairs : List (List ℕ)) → texts_from faults_of_pair i pairs ≡ faults_text (faults_from i pairs)
unfolding texts_from faults_text faults_from
texts_faults i [] = refl
texts_faults i (vs ∷ pairs) = ap (λ (l : List ℕ). faults_of_pair i vs ++ l) (texts_faults (suc i) pairs) ∙ sym (text-step i vs pairs)

-- the faults of pairs tell what the report tells of them
distinct-failing : (i : ℕ) (pairs : List (List ℕ)) → distinct_count (pairs_on (faults_from i pairs)) ≡ failing pairs
unfolding distinct_count failing faults_from
distinct-failing i [] = refl
distinct-failing i (vs ∷ pairs) =
    distinct-step i vs pairs ∙ ap (λ (n : ℕ). cond (eqb (nonzeros vs) 0) n (suc n)) (distinct-failing (suc i) pairs)

first_spot : (i : ℕ) (pairs : List (List ℕ)) → first_on (faults_from i pairs) ≡ spot_from i pairs
unfolding spot_from faults_from
first_spot i [] = refl
first_spot i (vs ∷ pairs) =
    first_step i vs pairs ∙ ap (λ (s : Spot). cond (eqb (nonzeros vs) 0) s (At i (first_from 1 vs))) (first_spot (suc i) pairs)

no_first : (fs : List Fault) → first_on fs ≡ Clean → fs ≡ []
no_first [] e = refl
no_first (f ∷ fs) e = let z : ◌≡◌ {A = ℕ} 1 0 = ap found e in absurd (omega arith)

-- what holds of f i, f (i + 1), .., k of them
all_tabulated : {A : Type 0} (P : A → Type 0) (f : ℕ → A) (k i n : ℕ) → i + k ≡ n → ((j : ℕ) → j < n → P (f j)) → All P (tabulate f i k)
unfolding tabulate
all_tabulated P f zero i n e h = tt
all_tabulated P f (suc k) i n e h = (h i (omega arith), all_tabulated P f k (suc i) n (omega arith) h)

-- every value of a run that is not turned back is canonical
module _ (run masks : List ℕ) (e : run_refusal run masks ≡ 0) where
  pair-below : (i : ℕ) → i < row_count run → All (λ v. v < p) (pair_at run masks (row_count run) i)
  unfolding pair_at
  pair-below i h =
      let next_row = by_cases (λ (j : ℕ). Row (row_at run j)) (is_last_pair (row_count run) i) (λ _. row_is run masks e 0 (some-row run masks e))
      (λ t. let q : i + 1 ≡ row_count run → ⊥ = eqb-false _ _ t in row_is run masks e (i + 1) (omega arith)) in
      values-canonical masks (row_at run i) (row_at run (next_row_index (row_count run) i)) (last_weight (row_count run) i) (first_weight i)
      (canonical-cells masks _ _ (accepted run masks e) (row_is run masks e i h) next_row _ _
      (by_cases (λ (w : ℕ). w < p) (is_last_pair (row_count run) i) (λ _. lit< tt) (λ _. lit< tt))
      (by_cases (λ (w : ℕ). w < p) (eqb i 0) (λ _. lit< tt) (λ _. lit< tt)))

  pairs_below : All (All (λ v. v < p)) (pairs_of run masks)
  unfolding pairs_of
  pairs_below = all_tabulated (All (λ v. v < p)) (pair_at run masks (row_count run)) (row_count run) 0 (row_count run) (omega arith) pair-below

-- an input of 25 masks and n rows that the report does not turn back
module _ (input : List ℕ) (n : ℕ) (size : length input ≡ 200 + 752 * n) (clear : run_refusal (run_in n input) (masks_in input) ≡ 0) where
  pub faults_told : FaultsTold input (pairs_of (run_in n input) (masks_in input)) (report_of (run_in n input) (masks_in input))
  faults_told =
      let pairs = pairs_of (run_in n input) (masks_in input) in
      let r = sym (report_done (run_in n input) (masks_in input) clear) in
      let spot = first_spot 0 pairs ∙ ap (λ (t : Report). t.spot) r in
      record {
        prints = prints_texts faults_of_pair input n size clear ∙ texts_faults 0 pairs;
        listed = listed pairs;
        clean = (λ none. sym spot ∙ ap first_on none, λ c. no_first (faults_from 0 pairs) (spot ∙ c));
        failing = distinct-failing 0 pairs ∙ ap (λ (t : Report). t.failing) r;
        first = spot;
        back = value-back pairs (pairs_below (run_in n input) (masks_in input) clear);
      }
