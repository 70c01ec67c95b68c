-- Pairs listed by their values: when none fails, and which is the first that does.
use mathlib.Core.Path.{◌≡◌, refl, sym, ap, ◌∙◌}
use mathlib.Core.Logic.{⊎_elim}
use mathlib.Core.Bool.{Bool, true, false, cond}
use mathlib.Core.List.{List, [], ◌∷◌}
use Prim.Native.Nat.{ℕ, zero, suc, ◌+◌, ◌≤◌, ◌<◌}
use native.Mathlib.Nat.{eq-or-lt_of_le}
use native.Mathlib.Omega.{arith}
use lib.Dec.{eqb}
use borrow.Author.Tests.{eq-eqb, eqb-true, eqb-false}
use Rattle.algebra.specs.Lists.{All}
use Rattle.tally.specs.Tally.{nonzeros, first_from}
use Rattle.tally.proofs.Laws.{counts_none}
use Rattle.run_pairs.specs.Run.{tabulate}
use Rattle.answers.specs.declared.Spot.{Spot}
use Rattle.answers.specs.declared.Spot.TheVariants.{Clean, At}
use Rattle.answers.specs.Spot.{found, pair_of, value_of}
use Rattle.runs.specs.Report.{failing, spot_from}

-- no pair has a nonzero value
abbrev pub Zeros : List (List ℕ) → Type 0
Zeros pairs = All (λ vs. nonzeros vs ≡ 0) pairs

pub zeros_of_failing : (pairs : List (List ℕ)) → failing pairs ≡ 0 → Zeros pairs
unfolding failing
zeros_of_failing [] e = tt
zeros_of_failing (vs ∷ pairs) e =
    let k = counts_none (nonzeros vs) (failing pairs) e in
    (k.0, zeros_of_failing pairs k.1)

pub failing_of_zeros : (pairs : List (List ℕ)) → Zeros pairs → failing pairs ≡ 0
unfolding failing
failing_of_zeros [] h = refl
failing_of_zeros (vs ∷ pairs) h = simp (eq-eqb _ _ h.0) (failing_of_zeros pairs h.1)

spots_none : (x i v : ℕ) (s : Spot) → cond (eqb x 0) s (At i v) ≡ Clean → (x ≡ 0) × (s ≡ Clean)
spots_none x i v s = go (eqb x 0) refl
  where
    go : (t : Bool) → eqb x 0 ≡ t → cond t s (At i v) ≡ Clean → (x ≡ 0) × (s ≡ Clean)
    go true q e = (eqb-true x 0 q, e)
    go false q e = absurd (let z : ◌≡◌ {A = ℕ} 1 0 = ap found e in omega arith)

pub zeros_of_clean : (i : ℕ) (pairs : List (List ℕ)) → spot_from i pairs ≡ Clean → Zeros pairs
unfolding spot_from
zeros_of_clean i [] e = tt
zeros_of_clean i (vs ∷ pairs) e =
    let k = spots_none (nonzeros vs) i (first_from 1 vs) (spot_from (suc i) pairs) e in
    (k.0, zeros_of_clean (suc i) pairs k.1)

pub clean_of_zeros : (i : ℕ) (pairs : List (List ℕ)) → Zeros pairs → spot_from i pairs ≡ Clean
unfolding spot_from
clean_of_zeros i [] h = refl
clean_of_zeros i (vs ∷ pairs) h = simp (eq-eqb _ _ h.0) (clean_of_zeros (suc i) pairs h.1)

-- of all that are listed, and of each
module _ {A : Type 0} (P : A → Type 0) (f : ℕ → A) where
  pub all_of_each : (i k : ℕ) → ((j : ℕ) → i ≤ j → j < i + k → P (f j)) → All P (tabulate f i k)
  unfolding tabulate
  all_of_each i zero h = tt
  all_of_each i (suc k) h = (h i (omega arith) (omega arith), all_of_each (suc i) k (λ j a b. h j (omega arith) (omega arith)))

  pub each_of_all : (i k : ℕ) → All P (tabulate f i k) → (j : ℕ) → i ≤ j → j < i + k → P (f j)
  unfolding tabulate
  each_of_all i zero h j a b = absurd (omega arith)
  each_of_all i (suc k) h j a b =
      ⊎_elim (λ e. rw e at h.0) (λ l. each_of_all (suc i) k h.1 j l (omega arith)) (eq-or-lt_of_le a)

-- the spot of pairs i, i + 1, .., k of them, with f i the values of pair i: pair j is the first that fails, and v its lowest value
pub record First (f : ℕ → List ℕ) (i k j v : ℕ) : Type 0 where
  pub from : i ≤ j
  pub within : j < i + k
  pub fails : nonzeros (f j) ≡ 0 → ⊥
  pub value : first_from 1 (f j) ≡ v
  pub before : (m : ℕ) → i ≤ m → m < j → nonzeros (f m) ≡ 0

module _ (f : ℕ → List ℕ) where
  step : (i k j v : ℕ) → (spot_from (suc i) (tabulate f (suc i) k) ≡ At j v → First f (suc i) k j v) → (t : Bool) → eqb (nonzeros (f i)) 0 ≡ t
      → cond t (spot_from (suc i) (tabulate f (suc i) k)) (At i (first_from 1 (f i))) ≡ At j v
      → First f i (suc k) j v
  step i k j v rest true q e =
      let r = rest e in
      record {
        from = omega (arith, r.from);
        within = omega (arith, r.within);
        fails = r.fails;
        value = r.value;
        before = λ m a b. ⊎_elim (λ s. ap (λ (n : ℕ). nonzeros (f n)) (sym s) ∙ eqb-true _ 0 q) (λ l. r.before m l b) (eq-or-lt_of_le a);
      }
  step i k j v rest false q e =
      let s : i ≡ j = ap pair_of e in
      record {
        from = omega arith;
        within = omega arith;
        fails = λ z. eqb-false _ 0 q (ap (λ (n : ℕ). nonzeros (f n)) s ∙ z);
        value = ap (λ (n : ℕ). first_from 1 (f n)) (sym s) ∙ ap value_of e;
        before = λ m a b. absurd (omega arith);
      }

  pub first_of_spot : (i k j v : ℕ) → spot_from i (tabulate f i k) ≡ At j v → First f i k j v
  unfolding tabulate spot_from
  first_of_spot i zero j v e = absurd (let z : ◌≡◌ {A = ℕ} 0 1 = ap found e in omega arith)
  first_of_spot i (suc k) j v e = step i k j v (λ r. first_of_spot (suc i) k j v r) (eqb (nonzeros (f i)) 0) refl e
