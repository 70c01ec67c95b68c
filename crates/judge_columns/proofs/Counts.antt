-- How many words of a run are 1.
use Prim.Native.Nat.{ℕ, zero, suc, ◌+◌, ◌-◌, ◌<◌, ◌≤◌}
use native.Mathlib.Omega.{arith}
use mathlib.Core.Path.{◌≡◌, refl, ap, ap₂, ◌∙◌}
use mathlib.Core.Bool.{Bool, true, false, cond}
use mathlib.Core.List.{List, [], ◌∷◌}
use lib.ListN.{length, get_or, take, drop}
use lib.Dec.{eqb}
use Rattle.std.specs.List.{count_by}
use Rattle.std.proofs.lemmas.List.Sums.{sum_by-cons, count_by-le-length}
use Rattle.rulebook.specs.Kind.{ones, first_one}
use Rattle.judge_columns.proofs.Runs.{part-length, part_at}

abbrev pub is-one : ℕ → Bool
is-one x = eqb x 1

ones-places : (g : ℕ → ℕ) (xs : List ℕ) (a n : ℕ) → length xs ≡ n → ((i : ℕ) → i < n → get_or xs i 0 ≡ g (a + i)) → count_by is-one xs ≡ ones g a n
unfolding ones
ones-places g [] a zero e h = refl
ones-places g [] a (suc n) e h = absurd (omega (arith, e))
ones-places g (y ∷ ys) a zero e h = absurd (omega (arith, e))
ones-places g (y ∷ ys) a (suc n) e h =
    sum_by-cons (λ x. cond (is-one x) 1 0) y ys
    ∙ ap₂ ◌+◌
    (ap (λ (x : ℕ). cond (is-one x) 1 0) (h zero (omega arith) ∙ ap g (omega arith)))
    (ones-places g ys (suc a) n (omega (arith, e)) (λ i l. h (suc i) (omega arith) ∙ ap g (omega arith)))

-- n words of a list from place a on, as Rust cuts them
module _ (l : List ℕ) (a n : ℕ) (h : a + n ≤ length l) where
  abbrev part : List ℕ
  part = take (a + n - a) (drop a l)

  cut : part ≡ take n (drop a l)
  cut = ap (λ (k : ℕ). take k (drop a l)) (omega arith)

  pub ones_bound : count_by is-one part ≤ n
  ones_bound = rw cut (omega (arith, count_by-le-length is-one (take n (drop a l)), part-length l a n h))

  pub ones_counted : count_by is-one part ≡ ones (λ c. get_or l c 0) a n
  ones_counted = rw cut (ones-places (λ c. get_or l c 0) (take n (drop a l)) a n (part-length l a n h) (part_at l a n h))

-- where exactly one is 1, it is among them
pub first_below : (g : ℕ → ℕ) (a n : ℕ) → ones g a n ≡ 1 → first_one g a n < n
unfolding ones first_one
first_below g a zero e = absurd (omega arith)
first_below g a (suc n) e = go (eqb (g a) 1) e (λ d. first_below g (suc a) n d)
  where
    go : (b : Bool) → cond b 1 0 + ones g (suc a) n ≡ 1 → (ones g (suc a) n ≡ 1 → first_one g (suc a) n < n) →
        cond b 0 (suc (first_one g (suc a) n)) < suc n
    go true d h = omega arith
    go false d h =
        let l : first_one g (suc a) n < n = h (omega arith) in
        omega arith
