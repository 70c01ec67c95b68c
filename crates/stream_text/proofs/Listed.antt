-- The faults of a run: one for each value that is not 0 and no other, pairs rising, numbers rising within a pair.
use mathlib.Core.Path.{◌≡◌, refl, sym, ap, ap₂, ◌∙◌}
use mathlib.Core.Logic.{inl, inr, ⊎_elim, ◌≢◌}
use mathlib.Core.Bool.{Bool, true, false, cond}
use mathlib.Core.List.{List, [], ◌∷◌, ◌++◌}
use Prim.Native.Nat.{ℕ, zero, suc, ◌+◌, ◌-◌, ◌<◌}
use native.Mathlib.Omega.{arith}
use lib.ListN.{get_or}
use lib.Dec.{eqb, lit<}
use borrow.Author.Tests.{ne_eqb, eqb-true, eqb-false}
use Rattle.algebra.specs.Prime.{p}
use Rattle.algebra.specs.Lists.{All, Mem, NoDup}
use Rattle.algebra.proofs.Lists.{all_map, all_append, all_at, all_of_mem, mem_left, mem_right, mem_cases}
use Rattle.field_signed.specs.Signed.{signed_of, residue_of}
use Rattle.field_signed.proofs.OneToOne.{back}
use Rattle.stream_text.specs.Faults.{Fault, pair_faults, faults_from}
use Rattle.stream_text.specs.Listed.{value_at, fault_at, Before, Rising, Listed}

-- what holds of a where v is 0, and of b where it is not
by_zero : {A : Type 0} (P : A → Type 0) (v : ℕ) (a b : A) → (v ≡ 0 → P a) → (v ≢ 0 → P b) → P (cond (eqb v 0) a b)
by_zero P v a b h k = go (eqb v 0) refl
  where
    go : (t : Bool) → eqb v 0 ≡ t → P (cond t a b)
    go true e = h (eqb-true v 0 e)
    go false e = k (eqb-false v 0 e)

-- f is the fault of one of these values, of which the first has the number k
pub record FaultOf (pair k : ℕ) (vs : List ℕ) (f : Fault) : Type 0 where
  pub place : ℕ
  pub pair_is : f.pair ≡ pair
  pub number_is : f.number ≡ k + place
  pub signed_is : f.signed ≡ signed_of (get_or vs place 0)
  pub nonzero : get_or vs place 0 ≢ 0

-- f is the fault of a value of one of these pairs, the first of which is pair i
pub record FaultFrom (i : ℕ) (pairs : List (List ℕ)) (f : Fault) : Type 0 where
  pub index : ℕ
  pub place : ℕ
  pub pair_is : f.pair ≡ i + index
  pub number_is : f.number ≡ suc place
  pub signed_is : f.signed ≡ signed_of (value_at pairs index place)
  pub nonzero : value_at pairs index place ≢ 0

-- every fault of a pair is on its list
module _ (pair : ℕ) (f : Fault) (e : f.pair ≡ pair) where
  pub pair-every : (k : ℕ) (vs : List ℕ) (j : ℕ) → f.number ≡ k + j → f.signed ≡ signed_of (get_or vs j 0)
      → get_or vs j 0 ≢ 0 → Mem f (pair_faults pair k vs)
  unfolding pair_faults
  pair-every k [] j n s z = absurd (z refl)
  pair-every k (v ∷ vs) zero n s z =
      let n' : f.number ≡ k = omega arith in
      simp (ne_eqb v 0 z) (inl (λ i. record { pair = e i; number = n' i; signed = s i }))
  pair-every k (v ∷ vs) (suc j) n s z =
      let m = pair-every (suc k) vs j (omega arith) s z in
      by_zero (Mem f) v _ _ (λ _. m) (λ _. inr m)

-- and no other
pub pair_only : (pair k : ℕ) (vs : List ℕ) (f : Fault) → Mem f (pair_faults pair k vs) → FaultOf pair k vs f
unfolding pair_faults
pair_only pair k [] f m = absurd m
pair_only pair k (v ∷ vs) f m =
    let later : Mem f (pair_faults pair (suc k) vs) → FaultOf pair k (v ∷ vs) f =
    λ n. shifted (pair_only pair (suc k) vs f n)
    in
    by_zero (λ l. Mem f l → FaultOf pair k (v ∷ vs) f) v _ _ (λ _. later) (λ z. ⊎_elim (first z) later) m
  where
    shifted : FaultOf pair (suc k) vs f → FaultOf pair k (v ∷ vs) f
    shifted w = record {
      place = suc w.place;
      pair_is = w.pair_is;
      number_is = omega (arith, w.number_is);
      signed_is = w.signed_is;
      nonzero = w.nonzero;
    }

    first : v ≢ 0 → f ≡ record { pair = pair; number = k; signed = signed_of v } → FaultOf pair k (v ∷ vs) f
    first z e = record {
      place = 0;
      pair_is = ap (λ g. g.pair) e;
      number_is = let n : f.number ≡ k = ap (λ g. g.number) e in omega arith;
      signed_is = ap (λ g. g.signed) e;
      nonzero = z;
    }

-- the same of pairs one after the other
pub from_every : (i : ℕ) (pairs : List (List ℕ)) (f : Fault) (j k : ℕ) → f.pair ≡ i + j → f.number ≡ suc k
    → f.signed ≡ signed_of (value_at pairs j k) → value_at pairs j k ≢ 0 → Mem f (faults_from i pairs)
unfolding faults_from
from_every i [] f j k e n s z = absurd (z refl)
from_every i (vs ∷ pairs) f zero k e n s z =
    mem_left f (pair_faults i 1 vs) (faults_from (suc i) pairs) (pair-every i f (omega arith) 1 vs k (omega arith) s z)
from_every i (vs ∷ pairs) f (suc j) k e n s z =
    mem_right f (pair_faults i 1 vs) (faults_from (suc i) pairs) (from_every (suc i) pairs f j k (omega arith) n s z)

pub from_only : (i : ℕ) (pairs : List (List ℕ)) (f : Fault) → Mem f (faults_from i pairs) → FaultFrom i pairs f
unfolding faults_from
from_only i [] f m = absurd m
from_only i (vs ∷ pairs) f m =
    mem_cases f (pair_faults i 1 vs) (faults_from (suc i) pairs) (λ n. first (pair_only i 1 vs f n))
    (λ n. shifted (from_only (suc i) pairs f n)) m
  where
    first : FaultOf i 1 vs f → FaultFrom i (vs ∷ pairs) f
    first w = record {
      index = 0;
      place = w.place;
      pair_is = omega (arith, w.pair_is);
      number_is = omega (arith, w.number_is);
      signed_is = w.signed_is;
      nonzero = w.nonzero;
    }

    shifted : FaultFrom (suc i) pairs f → FaultFrom i (vs ∷ pairs) f
    shifted w = record {
      index = suc w.index;
      place = w.place;
      pair_is = omega (arith, w.pair_is);
      number_is = w.number_is;
      signed_is = w.signed_is;
      nonzero = w.nonzero;
    }

-- pairs rising, numbers rising within a pair
pair-rising : (pair k : ℕ) (vs : List ℕ) → Rising (pair_faults pair k vs)
unfolding pair_faults
pair-rising pair k [] = tt
pair-rising pair k (v ∷ vs) =
    let r = pair-rising pair (suc k) vs in
    let b = all_of_mem (pair_faults pair (suc k) vs) (λ g m. behind g (pair_only pair (suc k) vs g m)) in
    by_zero Rising v _ _ (λ _. r) (λ _. (b, r))
  where
    behind : (g : Fault) → FaultOf pair (suc k) vs g
        → Before (record { pair = pair; number = k; signed = signed_of v }) g
    behind g w = inr (sym w.pair_is, omega (arith, w.number_is))

rising-append : (fs gs : List Fault) → Rising fs → Rising gs → ((f g : Fault) → Mem f fs → Mem g gs → Before f g)
    → Rising (fs ++ gs)
rising-append [] gs r s h = s
rising-append (f ∷ fs) gs r s h = (
  all_append (Before f) fs gs r.0 (all_of_mem gs (λ g m. h f g (inl refl) m)),
  rising-append fs gs r.1 s (λ e g m n. h e g (inr m) n),
)

from_rising : (i : ℕ) (pairs : List (List ℕ)) → Rising (faults_from i pairs)
unfolding faults_from
from_rising i [] = tt
from_rising i (vs ∷ pairs) =
    rising-append (pair_faults i 1 vs) (faults_from (suc i) pairs) (pair-rising i 1 vs) (from_rising (suc i) pairs)
    (λ f g m n. inl (apart f g (pair_only i 1 vs f m) (from_only (suc i) pairs g n)))
  where
    apart : (f g : Fault) → FaultOf i 1 vs f → FaultFrom (suc i) pairs g → f.pair < g.pair
    apart f g v w = omega (arith, v.pair_is, w.pair_is)

-- what rises has nothing twice
pub rising-once : (fs : List Fault) → Rising fs → NoDup fs
rising-once [] r = tt
rising-once (f ∷ fs) r = (all_map apart fs r.0, rising-once fs r.1)
  where
    apart : (g : Fault) → Before f g → f ≢ g
    apart g b e =
        let a : f.pair ≡ g.pair = ap (λ h. h.pair) e in
        let n : f.number ≡ g.number = ap (λ h. h.number) e in
        ⊎_elim (λ l. omega arith) (λ l. omega (arith, l.1)) b

pub listed : (pairs : List (List ℕ)) → Listed pairs (faults_from 0 pairs)
listed pairs = record {
  every = λ i k z. from_every 0 pairs (fault_at pairs i k) i k (omega arith) refl refl z;
  no_other = λ f m. told f (from_only 0 pairs f m);
  rising = from_rising 0 pairs;
  once = rising-once (faults_from 0 pairs) (from_rising 0 pairs);
}
  where
    told : (f : Fault) → FaultFrom 0 pairs f
        → (k : ℕ) × (f ≡ fault_at pairs f.pair k) × (value_at pairs f.pair k ≢ 0)
    told f w =
        let e : w.index ≡ f.pair = omega (arith, w.pair_is) in
        let s : f.signed ≡ signed_of (value_at pairs f.pair w.place) = rw e at w.signed_is in
        (w.place, (λ i. record { pair = f.pair; number = w.number_is i; signed = s i }), rw e at w.nonzero)

-- the residue of a fault's signed number is the value of its pair and number
pub value-back : (pairs : List (List ℕ)) → All (All (λ v. v < p)) pairs → (f : Fault) → Mem f (faults_from 0 pairs)
    → residue_of f.signed ≡ value_at pairs f.pair (f.number - 1)
value-back pairs h f m =
    let w = from_only 0 pairs f m in
    let i : w.index ≡ f.pair = omega (arith, w.pair_is) in
    let k : w.place ≡ f.number - 1 = omega (arith, w.number_is) in
    let b : All (λ v. v < p) (get_or pairs w.index []) = all_at (All (λ v. v < p)) [] tt pairs h w.index in
    ap residue_of w.signed_is
    ∙ back _ (all_at (λ v. v < p) 0 (lit< tt) (get_or pairs w.index []) b w.place)
    ∙ ap₂ (value_at pairs) i k
