-- What a run's report tells. Of every run: its number is that of the refusal, and no pair fails exactly where there is no spot. Of a run
-- that is not turned back and all of whose pairs have plain flags: it is clean exactly when every pair keeps every rule for its place in
-- the run, and otherwise its spot is the first pair that breaks one.
use mathlib.Core.Path.{◌≡◌, refl, sym, ap, ◌∙◌}
use mathlib.Core.Logic.{◌↔◌}
use mathlib.Core.Bool.{Bool, true, false, cond}
use mathlib.Core.List.{List}
use Prim.Native.Nat.{ℕ, ◌+◌, ◌<◌}
use native.Mathlib.Omega.{arith}
use lib.Dec.{eqb, lit<}
use borrow.Author.Tests.{eqb-false}
use Rattle.algebra.specs.Prime.{p}
use Rattle.algebra.specs.Lists.{All}
use Rattle.refusals.proofs.Laws.{by_unless}
use Rattle.rulebook.proofs.Tests.{true_of, of_true, by_cond}
use Rattle.rulebook.proofs.Theorem.{rules_iff_values}
use Rattle.tally.specs.Tally.{nonzeros}
use Rattle.tally.proofs.Laws.{zeros_of_none, none_of_zeros}
use Rattle.run_pairs.specs.Run.{row_count, is_last_pair, next_row_index, pair_at, pairs_of, run_refusal}
use Rattle.run_pairs.proofs.Parts.{accepted, row_is}
use Rattle.answers.specs.Report.{Report}
use Rattle.answers.specs.declared.Spot.TheVariants.{Clean, At}
use Rattle.runs.specs.Report.{reported, zero_report, report_of}
use Rattle.runs.specs.RunRules.{PlainAt, KeepsAt, EveryPair}
use Rattle.runs.proofs.Found.{length-tabulate, report_done}
use Rattle.runs.proofs.Pairs.{zeros_of_failing, failing_of_zeros, zeros_of_clean, clean_of_zeros, all_of_each, each_of_all, first_of_spot}

module _ (run masks : List ℕ) where
  -- the report by cases: of a run that is not turned back, and of one that is
  by_refusal : (P : Report → Type 0) → (run_refusal run masks ≡ 0 → P (reported (pairs_of run masks))) → P (zero_report (run_refusal run masks))
      → P (report_of run masks)
  unfolding report_of
  by_refusal P = by_unless zero_report (reported (pairs_of run masks)) P (run_refusal run masks)

  -- the number of the report is that of the refusal
  pub report-number : (report_of run masks).number ≡ run_refusal run masks
  report-number = by_refusal (λ r. r.number ≡ run_refusal run masks) sym refl

  -- no pair fails exactly where there is no spot
  pub none_fails_iff_clean : ((report_of run masks).failing ≡ 0) ↔ ((report_of run masks).spot ≡ Clean)
  none_fails_iff_clean =
      by_refusal (λ r. (r.failing ≡ 0) ↔ (r.spot ≡ Clean))
      (λ _. (λ h. clean_of_zeros 0 _ (zeros_of_failing _ h), λ h. failing_of_zeros _ (zeros_of_clean 0 _ h)))
      (λ _. refl, λ _. refl)

-- a run that is not turned back
module _ (run masks : List ℕ) (e : run_refusal run masks ≡ 0) where
  -- its rows, and the values of pair i
  abbrev n : ℕ
  n = row_count run

  abbrev at : ℕ → List ℕ
  at = pair_at run masks n

  -- it has as many pairs as rows
  pub report-pairs : (report_of run masks).pairs ≡ n
  unfolding pairs_of
  report-pairs = ap (λ (r : Report). r.pairs) (report_done run masks e) ∙ length-tabulate at 0 n

  spot_is : (report_of run masks).spot ≡ (reported (pairs_of run masks)).spot
  spot_is = ap (λ (r : Report). r.spot) (report_done run masks e)

  -- the report is clean exactly when every value of every pair is 0
  pub clean_iff_zeros : ((report_of run masks).spot ≡ Clean) ↔ EveryPair run (λ i. All (λ v. v ≡ 0) (at i))
  unfolding pairs_of
  clean_iff_zeros = (
    λ h i l.
        zeros_of_none _ (each_of_all (λ vs. nonzeros vs ≡ 0) at 0 n (zeros_of_clean 0 _ (sym spot_is ∙ h)) i (omega arith) (omega arith)),
    λ h. spot_is ∙ clean_of_zeros 0 _ (all_of_each (λ vs. nonzeros vs ≡ 0) at 0 n (λ i _ l. none_of_zeros _ (h i (omega arith)))),
  )

  next_in : (i : ℕ) → i < n → next_row_index n i < n
  next_in i l = go (is_last_pair n i) refl
    where
      go : (t : Bool) → is_last_pair n i ≡ t → cond t 0 (i + 1) < n
      go true q = omega arith
      go false q = let d = eqb-false (i + 1) n q in omega arith

  -- a pair with plain flags keeps every rule for its place in the run exactly when its values are 0
  pub keeps_iff_zeros : (i : ℕ) → i < n → PlainAt run i → KeepsAt run masks i ↔ All (λ v. v ≡ 0) (at i)
  unfolding pair_at
  keeps_iff_zeros i l plain =
      let z = by_cond (λ w. w < p) (is_last_pair n i) 0 1 (λ _. lit< tt) (lit< tt) in
      let f = by_cond (λ w. w < p) (eqb i 0) 1 0 (λ _. lit< tt) (lit< tt) in
      let k = rules_iff_values masks _ _ _ _ (accepted run masks e) (row_is run masks e i l) (row_is run masks e _ (next_in i l)) plain z f in
      (λ h. k.0 (of_true _ h), λ v. true_of _ (k.1 v))

  -- all of whose pairs have plain flags
  module _ (plain : EveryPair run (PlainAt run)) where
    -- the report is clean exactly when every pair keeps every rule for its place in the run
    pub clean_iff_keeps : ((report_of run masks).spot ≡ Clean) ↔ EveryPair run (KeepsAt run masks)
    clean_iff_keeps = (
      λ h i l. (keeps_iff_zeros i l (plain i l)).1 (clean_iff_zeros.0 h i l),
      λ h. clean_iff_zeros.1 (λ i l. (keeps_iff_zeros i l (plain i l)).0 (h i l)),
    )

    -- a spot is in the first pair that breaks a rule: those before it keep every rule
    pub spot_breaks : (i v : ℕ) → (report_of run masks).spot ≡ At i v
        → (i < n) × ((KeepsAt run masks i → ⊥) × ((j : ℕ) → j < i → KeepsAt run masks j))
    unfolding pairs_of
    spot_breaks i v h =
        let k = first_of_spot at 0 n i v (sym spot_is ∙ h) in
        let l : i < n = omega (arith, k.within) in (
          l,
          (
            λ q. k.fails (none_of_zeros _ ((keeps_iff_zeros i l (plain i l)).0 q)),
            λ j b. let m : j < n = omega arith in (keeps_iff_zeros j m (plain j m)).1 (zeros_of_none _ (k.before j (omega arith) b)),
          ),
        )
