-- A tally that is counted value by value.
use mathlib.Core.Path.{◌≡◌, refl, sym, ap, ◌∙◌}
use mathlib.Core.Bool.{Bool, true, false, cond}
use mathlib.Core.List.{List, [], ◌∷◌}
use Prim.Native.Nat.{ℕ, suc, ◌+◌, ◌≤◌, ◌<◌}
use native.Mathlib.Numerals.{add-one}
use native.Mathlib.Omega.{arith}
use borrow.Author.Tests.{eq-eqb, ne_eqb, eqb-true}
use lib.ListN.{length, get_or, drop, drop_of_length-le}
use lib.Dec.{eqb}
use Rattle.algebra.specs.Lists.{All}
use Rattle.refusals.proofs.Laws.{front}
use Rattle.tally.specs.Tally.{nonzeros, first_from}

-- n where it is a number already, else m
abbrev or_else : ℕ → ℕ → ℕ
or_else n m = cond (eqb n 0) m n

-- what stands counted before the values from i on
pub record Counted (a : List ℕ) (i count lowest : ℕ) : Type 0 where
  pub within : i ≤ length a
  pub few : count ≤ i
  pub counts : count + nonzeros (drop i a) ≡ nonzeros a
  pub first : or_else lowest (first_from (i + 1) (drop i a)) ≡ first_from 1 a

or_some : (n m : ℕ) → (n ≡ 0 → ⊥) → or_else n m ≡ n
or_some n m h = simp (ne_eqb _ _ h)

or-none : (n : ℕ) → or_else n 0 ≡ n
or-none n = go (eqb n 0) refl
  where
    go : (t : Bool) → eqb n 0 ≡ t → cond t 0 n ≡ n
    go true p = sym (eqb-true n 0 p)
    go false p = refl

pub counted_none : (a : List ℕ) → Counted a 0 0 0
counted_none a = record { within = omega arith; few = omega arith; counts = omega arith; first = refl }

pub counted_all : (a : List ℕ) (i count lowest : ℕ) → Counted a i count lowest → length a ≤ i → (count ≡ nonzeros a) × (lowest ≡ first_from 1 a)
unfolding nonzeros first_from
counted_all a i count lowest k h =
    let e : drop i a ≡ [] = drop_of_length-le a h in
    let n : nonzeros (drop i a) ≡ 0 = ap nonzeros e in
    (omega (arith, k.counts), sym (or-none lowest) ∙ ap (λ (l : List ℕ). or_else lowest (first_from (i + 1) l)) (sym e) ∙ k.first)

module _ (a : List ℕ) (i : ℕ) where
  pub nonzeros-at : i < length a → nonzeros (drop i a) ≡ cond (eqb (get_or a i 0) 0) (nonzeros (drop (i + 1) a)) (suc (nonzeros (drop (i + 1) a)))
  unfolding nonzeros
  nonzeros-at h = ap nonzeros (front a i h)

  pub first-at : i < length a → first_from (i + 1) (drop i a) ≡ cond (eqb (get_or a i 0) 0) (first_from (i + 1 + 1) (drop (i + 1) a)) (i + 1)
  unfolding first_from
  first-at h = ap (first_from (i + 1)) (front a i h) ∙ rw (add-one (i + 1))

  module _ (count lowest : ℕ) (k : Counted a i count lowest) (h : i < length a) where
    pub skipped : get_or a i 0 ≡ 0 → Counted a (i + 1) count lowest
    skipped z = record {
      within = omega arith;
      few = omega (arith, k.few);
      counts = ap (λ (n : ℕ). count + n) (sym (nonzeros-at h ∙ simp (eq-eqb _ _ z))) ∙ k.counts;
      first = ap (or_else lowest) (sym (first-at h ∙ simp (eq-eqb _ _ z))) ∙ k.first;
    }

    taken : (get_or a i 0 ≡ 0 → ⊥) → count + 1 + nonzeros (drop (i + 1) a) ≡ nonzeros a
    taken z =
        let e : nonzeros (drop i a) ≡ suc (nonzeros (drop (i + 1) a)) = nonzeros-at h ∙ simp (ne_eqb _ _ z) in
        omega (arith, k.counts)

    pub found : (get_or a i 0 ≡ 0 → ⊥) → lowest ≡ 0 → Counted a (i + 1) (count + 1) (i + 1)
    found z l = record {
      within = omega arith;
      few = omega (arith, k.few);
      counts = taken z;
      first =
          let e : first_from (i + 1) (drop i a) ≡ i + 1 = first-at h ∙ simp (ne_eqb _ _ z) in
          let l' : or_else lowest (first_from (i + 1) (drop i a)) ≡ first_from (i + 1) (drop i a) = simp (eq-eqb _ _ l) in
          or_some (i + 1) _ (omega arith) ∙ sym e ∙ sym l' ∙ k.first;
    }

    pub more : (get_or a i 0 ≡ 0 → ⊥) → (lowest ≡ 0 → ⊥) → Counted a (i + 1) (count + 1) lowest
    more z l = record {
      within = omega arith;
      few = omega (arith, k.few);
      counts = taken z;
      first = or_some lowest _ l ∙ sym (or_some lowest _ l) ∙ k.first;
    }

-- a count is 0 where what could be counted is 0, and so is the count of the rest
pub counts_none : (x n : ℕ) → cond (eqb x 0) n (suc n) ≡ 0 → (x ≡ 0) × (n ≡ 0)
counts_none x n = go (eqb x 0) refl
  where
    go : (t : Bool) → eqb x 0 ≡ t → cond t n (suc n) ≡ 0 → (x ≡ 0) × (n ≡ 0)
    go true q e = (eqb-true x 0 q, e)
    go false q e = absurd (omega arith)

-- no value is counted exactly where all are 0
pub zeros_of_none : (vs : List ℕ) → nonzeros vs ≡ 0 → All (λ v. v ≡ 0) vs
unfolding nonzeros
zeros_of_none [] e = tt
zeros_of_none (v ∷ vs) e =
    let k = counts_none v (nonzeros vs) e in
    (k.0, zeros_of_none vs k.1)

pub none_of_zeros : (vs : List ℕ) → All (λ v. v ≡ 0) vs → nonzeros vs ≡ 0
unfolding nonzeros
none_of_zeros [] h = refl
none_of_zeros (v ∷ vs) h = simp (eq-eqb v 0 h.0) (none_of_zeros vs h.1)
