-- What the faults of a run tell: how many values are not 0, how many pairs fail and which is the first. Each is told of
-- a pair and of those after it, so that it follows for all pairs by induction.
use mathlib.Core.Path.{◌≡◌, refl, sym, ap, ◌∙◌}
use mathlib.Core.Logic.{inl, inr}
use mathlib.Core.Bool.{Bool, true, false, cond}
use mathlib.Core.List.{List, [], ◌∷◌, ◌++◌, append_assoc}
use Prim.Native.Nat.{ℕ, zero, suc, ◌+◌, ◌<◌}
use native.Mathlib.Nat.{add-zero}
use native.Mathlib.Omega.{arith}
use lib.ListN.{length, replicate, length-replicate}
use lib.Dec.{eqb, eqb-suc-zero}
use borrow.Author.Tests.{eq-eqb, ne_eqb}
use Rattle.algebra.specs.Lists.{Mem}
use Rattle.refusals.specs.Refusal.{member}
use Rattle.answers.specs.declared.Spot.TheVariants.{At}
use Rattle.tally.specs.Tally.{nonzeros, first_from}
use Rattle.field_signed.specs.Signed.{signed_of}
use Rattle.stream_text.specs.Faults.{Fault, pair_faults, faults_from, fault_line, faults_text, faults_of_pair}
use Rattle.stream_text.specs.Listed.{pairs_on, distinct_count, first_on}
use Rattle.stream_text.proofs.Listed.{from_only}

-- faults one list behind the other
pub text-append : (fs gs : List Fault) → faults_text (fs ++ gs) ≡ faults_text fs ++ faults_text gs
unfolding faults_text
text-append [] gs = refl
text-append (f ∷ fs) gs =
    ap (λ (l : List ℕ). fault_line f ++ l) (text-append fs gs)
    ∙ sym (append_assoc (fault_line f) (faults_text fs) (faults_text gs))

pub pair-append : (pair k : ℕ) (vs ws : List ℕ)
    → pair_faults pair k (vs ++ ws) ≡ pair_faults pair k vs ++ pair_faults pair (k + length vs) ws
unfolding pair_faults
pair-append pair k [] ws = ap (λ (n : ℕ). pair_faults pair n ws) (sym (add-zero k))
pair-append pair k (v ∷ vs) ws =
    go (eqb v 0) (pair-append pair (suc k) vs ws ∙ ap (λ (n : ℕ). rest ++ pair_faults pair n ws) next)
  where
    rest : List Fault
    rest = pair_faults pair (suc k) vs

    next : suc k + length vs ≡ k + suc (length vs)
    next = omega arith

    fault : Fault
    fault = record { pair = pair; number = k; signed = signed_of v }

    go : (b : Bool) → pair_faults pair (suc k) (vs ++ ws) ≡ rest ++ pair_faults pair (k + suc (length vs)) ws
        → cond b (pair_faults pair (suc k) (vs ++ ws)) (fault ∷ pair_faults pair (suc k) (vs ++ ws))
        ≡ cond b rest (fault ∷ rest) ++ pair_faults pair (k + suc (length vs)) ws
    go true e = e
    go false e = ap (λ (l : List Fault). fault ∷ l) e

pairs-append : (fs gs : List Fault) → pairs_on (fs ++ gs) ≡ pairs_on fs ++ pairs_on gs
pairs-append [] gs = refl
pairs-append (f ∷ fs) gs = ap (λ (l : List ℕ). f.pair ∷ l) (pairs-append fs gs)

pairs-length : (fs : List Fault) → length (pairs_on fs) ≡ length fs
pairs-length [] = refl
pairs-length (f ∷ fs) = ap suc (pairs-length fs)

-- a pair has as many faults as values that are not 0, all of that pair, and the first has the number of the first such
-- value
module _ (pair : ℕ) where
  pair-pairs : (k : ℕ) (vs : List ℕ) → pairs_on (pair_faults pair k vs) ≡ replicate (nonzeros vs) pair
  unfolding pair_faults nonzeros
  pair-pairs k [] = refl
  pair-pairs k (v ∷ vs) = go (eqb v 0) (pair-pairs (suc k) vs)
    where
      rest : List Fault
      rest = pair_faults pair (suc k) vs

      go : (b : Bool) → pairs_on rest ≡ replicate (nonzeros vs) pair
          → pairs_on (cond b rest (record { pair = pair; number = k; signed = signed_of v } ∷ rest))
          ≡ replicate (cond b (nonzeros vs) (suc (nonzeros vs))) pair
      go true e = e
      go false e = ap (λ (l : List ℕ). pair ∷ l) e

  pub pair-count : (k : ℕ) (vs : List ℕ) → length (pair_faults pair k vs) ≡ nonzeros vs
  pair-count k vs =
      sym (pairs-length (pair_faults pair k vs)) ∙ ap length (pair-pairs k vs) ∙ length-replicate (nonzeros vs) pair

  pub pair-first : (k : ℕ) (vs : List ℕ) (fs : List Fault)
      → first_on (pair_faults pair k vs ++ fs) ≡ cond (eqb (nonzeros vs) 0) (first_on fs) (At pair (first_from k vs))
  unfolding pair_faults nonzeros first_from
  pair-first k [] fs = refl
  pair-first k (v ∷ vs) fs = go (eqb v 0) (pair-first (suc k) vs fs)
    where
      rest : List Fault
      rest = pair_faults pair (suc k) vs

      go : (b : Bool) → first_on (rest ++ fs) ≡ cond (eqb (nonzeros vs) 0) (first_on fs) (At pair (first_from (suc k) vs))
          → first_on (cond b rest (record { pair = pair; number = k; signed = signed_of v } ∷ rest) ++ fs)
          ≡ cond (eqb (cond b (nonzeros vs) (suc (nonzeros vs))) 0) (first_on fs)
          (At pair (cond b (first_from (suc k) vs) k))
      go true e = e
      go false e = rw eqb-suc-zero

-- a number once or more before numbers that it is not among adds one to how many distinct ones there are
distinct_more : (n m : ℕ) (ns : List ℕ) → member n ns ≡ false
    → distinct_count (replicate (suc m) n ++ ns) ≡ suc (distinct_count ns)
unfolding distinct_count
distinct_more n zero ns e = rw e
distinct_more n (suc m) ns e = rw (eq-eqb n n refl) (distinct_more n m ns e)

distinct-same : (n m : ℕ) (ns : List ℕ) → member n ns ≡ false
    → distinct_count (replicate m n ++ ns) ≡ cond (eqb m 0) (distinct_count ns) (suc (distinct_count ns))
distinct-same n zero ns e = refl
distinct-same n (suc m) ns e = rw eqb-suc-zero (distinct_more n m ns e)

not-member : (n : ℕ) (fs : List Fault) → ((f : Fault) → Mem f fs → n < f.pair) → member n (pairs_on fs) ≡ false
not-member n [] h = refl
not-member n (f ∷ fs) h =
    let l : n < f.pair = h f (inl refl) in
    rw (ne_eqb n f.pair (λ e. omega arith)) (not-member n fs (λ g m. h g (inr m)))

-- of a pair and those after it
module _ (i : ℕ) (vs : List ℕ) (pairs : List (List ℕ)) where
  pub first_step : first_on (faults_from i (vs ∷ pairs))
      ≡ cond (eqb (nonzeros vs) 0) (first_on (faults_from (suc i) pairs)) (At i (first_from 1 vs))
  unfolding faults_from
  first_step = pair-first i 1 vs (faults_from (suc i) pairs)

  later_pairs : (f : Fault) → Mem f (faults_from (suc i) pairs) → i < f.pair
  later_pairs f m = omega (arith, (from_only (suc i) pairs f m).pair_is)

  pub distinct-step : distinct_count (pairs_on (faults_from i (vs ∷ pairs)))
      ≡ cond (eqb (nonzeros vs) 0) (distinct_count (pairs_on (faults_from (suc i) pairs)))
      (suc (distinct_count (pairs_on (faults_from (suc i) pairs))))
  unfolding faults_from
  distinct-step =
      let fs = faults_from (suc i) pairs in
      ap distinct_count
      (pairs-append (pair_faults i 1 vs) fs ∙ ap (λ (l : List ℕ). l ++ pairs_on fs) (pair-pairs i 1 vs))
      ∙ distinct-same i (nonzeros vs) (pairs_on fs) (not-member i fs later_pairs)

  pub text-step : faults_text (faults_from i (vs ∷ pairs)) ≡ faults_of_pair i vs ++ faults_text (faults_from (suc i) pairs)
  unfolding faults_from
  text-step = text-append (pair_faults i 1 vs) (faults_from (suc i) pairs)
