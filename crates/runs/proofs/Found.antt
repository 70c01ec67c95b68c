-- The walk over the pairs of a run: what stands found, pair by pair, and the report.
use mathlib.Core.Path.{◌≡◌, refl, sym, ap, ◌∙◌}
use mathlib.Core.Bool.{Bool, true, false, cond}
use mathlib.Core.List.{List, ◌∷◌}
use Prim.Native.Nat.{ℕ, zero, suc, ◌+◌, ◌-◌, ◌≤◌, ◌<◌}
use native.Mathlib.Numerals.{add-one}
use native.Mathlib.Omega.{arith}
use lib.ListN.{length}
use lib.Dec.{eqb}
use borrow.Author.Tests.{eq-eqb, ne_eqb, eqb-true, eqb-false}
use Rattle.refusals.proofs.Laws.{refused_unless, given_unless}
use Rattle.tally.specs.Tally.{nonzeros, first_from}
use Rattle.run_pairs.specs.Run.{row_count, pair_at, tabulate, pairs_of, run_refusal}
use Rattle.answers.specs.Report.{Report}
use Rattle.answers.specs.declared.Spot.{Spot}
use Rattle.answers.specs.declared.Spot.TheVariants.{Clean, At}
use Rattle.runs.specs.Report.{failing, spot_from, reported, zero_report, report_of}

-- what stands found of the pairs before i, with f i the values of pair i
pub record Found (f : ℕ → List ℕ) (n i count : ℕ) (spot : Spot) : Type 0 where
  pub within : i ≤ n
  pub few : count ≤ i
  pub counts : count + failing (tabulate f i (n - i)) ≡ failing (tabulate f 0 n)
  pub clean : count ≡ 0 → spot ≡ Clean
  pub first : cond (eqb count 0) (spot_from i (tabulate f i (n - i))) spot ≡ spot_from 0 (tabulate f 0 n)

pub length-tabulate : {A : Type 0} (f : ℕ → A) (i k : ℕ) → length (tabulate f i k) ≡ k
unfolding tabulate
length-tabulate f i zero = refl
length-tabulate f i (suc k) = ap suc (length-tabulate f (suc i) k)

module _ (f : ℕ → List ℕ) (n : ℕ) where
  tabulate-at : (i : ℕ) → i < n → tabulate f i (n - i) ≡ f i ∷ tabulate f (i + 1) (n - (i + 1))
  unfolding tabulate
  tabulate-at i h =
      let e : n - i ≡ suc (n - (i + 1)) = omega arith in
      rw (e, add-one)

  module _ (i : ℕ) (h : i < n) where
    failing-at : failing (tabulate f i (n - i))
        ≡ cond (eqb (nonzeros (f i)) 0) (failing (tabulate f (i + 1) (n - (i + 1)))) (suc (failing (tabulate f (i + 1) (n - (i + 1)))))
    unfolding failing
    failing-at = ap failing (tabulate-at i h)

    spot_at : spot_from i (tabulate f i (n - i))
        ≡ cond (eqb (nonzeros (f i)) 0) (spot_from (i + 1) (tabulate f (i + 1) (n - (i + 1)))) (At i (first_from 1 (f i)))
    unfolding spot_from
    spot_at = ap (spot_from i) (tabulate-at i h) ∙ rw (add-one i)

    module _ (count : ℕ) (spot : Spot) (k : Found f n i count spot) where
      pub passed : nonzeros (f i) ≡ 0 → Found f n (i + 1) count spot
      passed z =
          let e : failing (tabulate f i (n - i)) ≡ failing (tabulate f (i + 1) (n - (i + 1))) = failing-at ∙ simp (eq-eqb _ _ z) in
          let s : spot_from i (tabulate f i (n - i)) ≡ spot_from (i + 1) (tabulate f (i + 1) (n - (i + 1))) = spot_at ∙ simp (eq-eqb _ _ z) in
          record {
            within = omega arith;
            few = omega (arith, k.few);
            counts = omega (arith, k.counts);
            clean = k.clean;
            first = rw s at k.first;
          }

      fails : (nonzeros (f i) ≡ 0 → ⊥) → count + 1 + failing (tabulate f (i + 1) (n - (i + 1))) ≡ failing (tabulate f 0 n)
      fails z =
          let e : failing (tabulate f i (n - i)) ≡ suc (failing (tabulate f (i + 1) (n - (i + 1)))) = failing-at ∙ simp (ne_eqb _ _ z) in
          omega (arith, k.counts)

      pub failed_first : (nonzeros (f i) ≡ 0 → ⊥) → count ≡ 0 → Found f n (i + 1) (count + 1) (At i (first_from 1 (f i)))
      failed_first z b =
          let s : spot_from i (tabulate f i (n - i)) ≡ At i (first_from 1 (f i)) = spot_at ∙ simp (ne_eqb _ _ z) in
          record {
            within = omega arith;
            few = omega (arith, k.few);
            counts = fails z;
            clean = λ e. absurd (omega arith);
            first = simp (ne_eqb (count + 1) 0 (λ e. omega arith)) (sym s ∙ simp (eq-eqb _ _ b) at k.first);
          }

      pub failed_more : (nonzeros (f i) ≡ 0 → ⊥) → (count ≡ 0 → ⊥) → Found f n (i + 1) (count + 1) spot
      failed_more z b =
          record {
            within = omega arith;
            few = omega (arith, k.few);
            counts = fails z;
            clean = λ e. absurd (omega arith);
            first = simp (ne_eqb (count + 1) 0 (λ e. omega arith)) (simp (ne_eqb _ _ b) at k.first);
          }

      -- either, whichever the count says
      pub failed : (s : Spot) → (nonzeros (f i) ≡ 0 → ⊥) → (count ≡ 0 → s ≡ At i (first_from 1 (f i))) → ((count ≡ 0 → ⊥) → s ≡ spot) →
          Found f n (i + 1) (count + 1) s
      failed s z a b = go (eqb count 0) refl
        where
          go : (t : Bool) → eqb count 0 ≡ t → Found f n (i + 1) (count + 1) s
          go true p = let e = a (eqb-true count 0 p) in rw e (failed_first z (eqb-true count 0 p))
          go false p = let e = b (eqb-false count 0 p) in rw e (failed_more z (eqb-false count 0 p))

  found_all : (i count : ℕ) (spot : Spot) → Found f n i count spot → n ≤ i
      → (count ≡ failing (tabulate f 0 n)) × (spot ≡ spot_from 0 (tabulate f 0 n))
  unfolding tabulate failing spot_from
  found_all i count spot k h =
      let z : n - i ≡ 0 = omega arith in
      let e : failing (tabulate f i (n - i)) ≡ 0 = rw z in
      (omega (arith, k.counts), go (eqb count 0) refl)
    where
      empty : spot_from i (tabulate f i (n - i)) ≡ Clean
      empty = let z : n - i ≡ 0 = omega arith in rw z

      go : (t : Bool) → eqb count 0 ≡ t → spot ≡ spot_from 0 (tabulate f 0 n)
      go true p = k.clean (eqb-true count 0 p) ∙ sym empty ∙ simp p at k.first
      go false p = simp p at k.first

-- all pairs are passed
pub found-report : (run masks : List ℕ) (i count : ℕ) (spot : Spot)
    → Found (pair_at run masks (row_count run)) (row_count run) i count spot
    → row_count run ≤ i
    → ◌≡◌ {A = Report} (record { number = 0; pairs = row_count run; failing = count; spot = spot }) (reported (pairs_of run masks))
unfolding pairs_of
found-report run masks i count spot k h =
    let e = found_all (pair_at run masks (row_count run)) (row_count run) i count spot k h in
    let n = length-tabulate (pair_at run masks (row_count run)) 0 (row_count run) in
    λ j. record { number = 0; pairs = sym n j; failing = e.0 j; spot = e.1 j }

-- the report of a run that is turned back, and of one that is not
module _ (run masks : List ℕ) where
  pub report_refused : (run_refusal run masks ≡ 0 → ⊥) → report_of run masks ≡ zero_report (run_refusal run masks)
  unfolding report_of
  report_refused h = sym (refused_unless zero_report (reported (pairs_of run masks)) _ (run_refusal run masks) refl h)

  pub report_done : run_refusal run masks ≡ 0 → report_of run masks ≡ reported (pairs_of run masks)
  unfolding report_of
  report_done h = sym (given_unless zero_report (reported (pairs_of run masks)) (run_refusal run masks) h)
