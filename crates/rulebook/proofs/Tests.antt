-- Tests: what their connectives tell, tests of every and of some element of a list, and zero in the field as a test.
use mathlib.Core.Path.{◌≡◌, refl, sym, ap, ◌∙◌}
use mathlib.Core.Logic.{◌⊎◌, inl, inr}
use mathlib.Core.Bool.{Bool, true, false, not, cond, ◌&&◌, ◌||◌, and_assoc, or_assoc, true≢false}
use mathlib.Core.List.{List, [], ◌∷◌, ◌++◌}
use Prim.Native.Nat.{ℕ, zero, suc, ◌<◌, zero-le, suc-le-suc}
use lib.ListN.{length, get_or}
use lib.Dec.{T, eqb}
use borrow.Author.Tests.{eqb-true, eq-eqb}
use Rattle.algebra.specs.Ring.{sub}
use Rattle.algebra.specs.Lists.{All}
use Rattle.algebra.specs.Field.{𝔾, val}
use Rattle.algebra.proofs.Ring.{zero-mul, mul-zero, eq_of_sub, sub_of_eq, neg-neg, neg-zero}
use Rattle.algebra.proofs.Field.{𝔾_is_ring, 𝔾_is_domain, val-nat, nat-val}

pub true_of : (b : Bool) → T b → b ≡ true
true_of true t = refl
true_of false t = absurd t

pub of_true : (b : Bool) → b ≡ true → T b
of_true b e = rw e tt

pub bool_ext : (b c : Bool) → (b ≡ true → c ≡ true) → (c ≡ true → b ≡ true) → b ≡ c
bool_ext true c f g = sym (f refl)
bool_ext false true f g = g refl
bool_ext false false f g = refl

pub and_left : (a b : Bool) → (a && b) ≡ true → a ≡ true
and_left true b h = refl
and_left false b h = h

pub and_right : (a b : Bool) → (a && b) ≡ true → b ≡ true
and_right true b h = h
and_right false b h = absurd (true≢false (sym h))

pub and_intro : (a b : Bool) → a ≡ true → b ≡ true → (a && b) ≡ true
and_intro true b h k = k
and_intro false b h k = h

pub or_left : (a b : Bool) → a ≡ true → (a || b) ≡ true
or_left true b h = refl
or_left false b h = absurd (true≢false (sym h))

pub or_right : (a b : Bool) → b ≡ true → (a || b) ≡ true
or_right true b h = refl
or_right false b h = h

pub or_cases {ℓ} : {A : Type ℓ} (a b : Bool) → (a || b) ≡ true → (a ≡ true → A) → (b ≡ true → A) → A
or_cases true b h f g = f refl
or_cases false b h f g = g h

pub not_both : (b : Bool) → not b ≡ true → b ≡ true → ⊥
not_both true n h = true≢false (sym n)
not_both false n h = true≢false (sym h)

pub not_intro : (b : Bool) → (b ≡ true → ⊥) → not b ≡ true
not_intro true n = absurd (n refl)
not_intro false n = refl

-- a choice by a test, known from both sides
pub by_cond {ℓ} : {A : Type 0} (P : A → Type ℓ) (b : Bool) (x y : A) → (b ≡ true → P x) → P y → P (cond b x y)
by_cond P true x y f g = f refl
by_cond P false x y f g = g

module _ {A : Type 0} where
  abbrev pub all : (A → Bool) → List A → Bool
  all f [] = true
  all f (x ∷ xs) = f x && all f xs

  abbrev pub any : (A → Bool) → List A → Bool
  any f [] = false
  any f (x ∷ xs) = f x || any f xs

  pub all_append : (f : A → Bool) (xs ys : List A) → all f (xs ++ ys) ≡ (all f xs && all f ys)
  all_append f [] ys = refl
  all_append f (x ∷ xs) ys = ap (λ t. f x && t) (all_append f xs ys) ∙ sym (and_assoc (f x) (all f xs) (all f ys))

  pub any_append : (f : A → Bool) (xs ys : List A) → any f (xs ++ ys) ≡ (any f xs || any f ys)
  any_append f [] ys = refl
  any_append f (x ∷ xs) ys = ap (λ t. f x || t) (any_append f xs ys) ∙ sym (or_assoc (f x) (any f xs) (any f ys))

  pub all_mono : (f g : A → Bool) → ((x : A) → f x ≡ true → g x ≡ true) → (xs : List A) → all f xs ≡ true → all g xs ≡ true
  all_mono f g h [] t = refl
  all_mono f g h (x ∷ xs) t = and_intro _ _ (h x (and_left _ _ t)) (all_mono f g h xs (and_right (f x) _ t))

  pub all_All : (f : A → Bool) (xs : List A) → all f xs ≡ true → All (λ x. f x ≡ true) xs
  all_All f [] t = tt
  all_All f (x ∷ xs) t = (and_left _ _ t, all_All f xs (and_right (f x) _ t))

  -- at a place of the list, and from all places
  pub all_get_d : (f : A → Bool) (xs : List A) (d : A) (i : ℕ) → f d ≡ true → all f xs ≡ true → f (get_or xs i d) ≡ true
  all_get_d f [] d i h t = h
  all_get_d f (x ∷ xs) d zero h t = and_left _ _ t
  all_get_d f (x ∷ xs) d (suc i) h t = all_get_d f xs d i h (and_right (f x) _ t)

  pub get_d_all : (f : A → Bool) (xs : List A) (d : A) → ((i : ℕ) → i < length xs → f (get_or xs i d) ≡ true) → all f xs ≡ true
  get_d_all f [] d h = refl
  get_d_all f (x ∷ xs) d h =
      and_intro _ _ (h zero (suc-le-suc zero-le)) (get_d_all f xs d (λ i l. h (suc i) (suc-le-suc l)))

-- zero and equality in the field, as tests
abbrev pub is_zero : 𝔾.F → Bool
is_zero a = eqb (val a) 0

abbrev pub same : 𝔾.F → 𝔾.F → Bool
same a b = eqb (val a) (val b)

pub same-eq : (a b : 𝔾.F) → same a b ≡ true → a ≡ b
same-eq a b t = sym (nat-val a) ∙ ap 𝔾.nat (eqb-true (val a) (val b) t) ∙ nat-val b

pub eq-same : (a b : 𝔾.F) → a ≡ b → same a b ≡ true
eq-same a b e = eq-eqb (val a) (val b) (ap val e)

val-zero : val 𝔾.zero ≡ 0
val-zero = ap val (sym 𝔾_is_ring.nat-zero) ∙ val-nat 0

pub is_zero_eq : (a : 𝔾.F) → is_zero a ≡ true → a ≡ 𝔾.zero
is_zero_eq a t = same-eq a 𝔾.zero (rw val-zero t)

pub eq_is_zero : (a : 𝔾.F) → a ≡ 𝔾.zero → is_zero a ≡ true
eq_is_zero a e = rw val-zero at (eq-same a 𝔾.zero e)

pub is_zero_mul : (a b : 𝔾.F) → is_zero (𝔾.mul a b) ≡ (is_zero a || is_zero b)
is_zero_mul a b =
    bool_ext _ _ (λ t. to (𝔾_is_domain.mul-eq-zero a b (is_zero_eq _ t)))
    (λ t.
    or_cases (is_zero a) (is_zero b) t
    (λ u. eq_is_zero _ (ap (λ s. 𝔾.mul s b) (is_zero_eq a u) ∙ zero-mul 𝔾 𝔾_is_ring b))
    (λ u. eq_is_zero _ (ap (λ s. 𝔾.mul a s) (is_zero_eq b u) ∙ mul-zero 𝔾 𝔾_is_ring a)))
  where
    to : (a ≡ 𝔾.zero) ⊎ (b ≡ 𝔾.zero) → (is_zero a || is_zero b) ≡ true
    to (inl e) = or_left _ _ (eq_is_zero a e)
    to (inr e) = or_right (is_zero a) _ (eq_is_zero b e)

pub is_zero_sub : (a b : 𝔾.F) → is_zero (sub 𝔾 a b) ≡ same a b
is_zero_sub a b =
    bool_ext _ _ (λ t. eq-same a b (eq_of_sub 𝔾 𝔾_is_ring a b (is_zero_eq _ t)))
    (λ t. eq_is_zero _ (sub_of_eq 𝔾 𝔾_is_ring a b (same-eq a b t)))

pub is_zero_neg : (a : 𝔾.F) → is_zero (𝔾.neg a) ≡ is_zero a
is_zero_neg a =
    bool_ext _ _
    (λ t. eq_is_zero a (sym (neg-neg 𝔾 𝔾_is_ring a) ∙ ap 𝔾.neg (is_zero_eq _ t) ∙ neg-zero 𝔾 𝔾_is_ring))
    (λ t. eq_is_zero _ (ap 𝔾.neg (is_zero_eq a t) ∙ neg-zero 𝔾 𝔾_is_ring))
