-- Identities of a ring by computation: `solve R L (x ∷ y ∷ []) a b tt` proves that the expressions a and b, in x for `var 0` and y for
-- `var 1`, have one value. A polynomial in the first variable is a list of coefficients, lowest first, which are polynomials in the
-- others; a number is a difference of naturals. proofs/Identities.antt shows the use.
use mathlib.Core.Path.{◌≡◌, refl, sym, ap, ap₂, ◌∙◌}
use mathlib.Core.Bool.{Bool, true, false, ◌&&◌}
use mathlib.Core.List.{List, [], ◌∷◌}
use Prim.Native.Nat as N
use Prim.Native.Nat.{ℕ, zero, suc}
use lib.ListN.{get_or}
use lib.Dec.{T, eqb, eqb→eq}
use Rattle.algebra.specs.Ring.{Ops, IsRing}
use Rattle.algebra.specs.Expr.{Expr, var, con, ◌⊕◌, ◌⊖◌, ◌⊗◌, eval}
use Rattle.algebra.proofs.Ring.{ring_laws, nat-add, nat-mul, sub_of_eq, eq_of_sub, add-zero, zero-add, mul-zero, zero-mul, neg-zero}

module _ (R : Ops) where
  -- what is computed with, and its values in the ring
  pub record Coefs : Type 1 where
    pub C : Type 0
    pub num : ℕ → C
    pub plus : C → C → C
    pub minus : C → C
    pub times : C → C → C
    pub null : C → Bool
    pub value : C → R.F
    pub value_num : (n : ℕ) → value (num n) ≡ R.nat n
    pub value-plus : (a b : C) → value (plus a b) ≡ R.add (value a) (value b)
    pub value-minus : (a : C) → value (minus a) ≡ R.neg (value a)
    pub value-times : (a b : C) → value (times a b) ≡ R.mul (value a) (value b)
    pub value_null : (a : C) → T (null a) → value a ≡ R.zero

and_left : (a b : Bool) → T (a && b) → T a
and_left true b h = tt
and_left false b h = h

and_right : (a b : Bool) → T (a && b) → T b
and_right true b h = h
and_right false b h = absurd h

module _ (R : Ops) (L : IsRing R) where
  open R use {F, zero as 𝟘, one as 𝟙, nat, add as ◌+◌, neg as -◌, mul as ◌*◌}

  infixl 65 ◌+◌
  infixl 70 ◌*◌
  infix 75 -◌
  pub differences : (a b c d : F) → a * c + b * d + - (a * d + b * c) ≡ (a + - b) * (c + - d)
  differences a b c d = simp (ring_laws, L)

  abbrev pub numbers : Coefs R
  numbers =
      record {
        C = ℕ × ℕ;
        num = λ n. (n, 0);
        plus = λ x y. (N.◌+◌ x.0 y.0, N.◌+◌ x.1 y.1);
        minus = λ x. (x.1, x.0);
        times = λ x y. (N.◌+◌ (N.◌*◌ x.0 y.0) (N.◌*◌ x.1 y.1), N.◌+◌ (N.◌*◌ x.0 y.1) (N.◌*◌ x.1 y.0));
        null = λ x. eqb x.0 x.1;
        value = λ x. nat x.0 + - nat x.1;
        value_num = λ n. rw L.nat-zero (simp (ring_laws, L));
        value-plus = λ x y. simp (nat-add R L, ring_laws, L);
        value-minus = λ x. simp (ring_laws, L);
        value-times = λ x y. simp (nat-add R L, nat-mul R L) (differences (nat x.0) (nat x.1) (nat y.0) (nat y.1));
        value_null = λ x h. sub_of_eq R L (nat x.0) (nat x.1) (ap nat (eqb→eq x.0 x.1 h));
      }

  plus_ident : (c d x p q : F) → c + d + x * (p + q) ≡ c + x * p + (d + x * q)
  plus_ident c d x p q = simp (ring_laws, L)

  minus_ident : (c x p : F) → - c + x * - p ≡ - (c + x * p)
  minus_ident c x p = simp (ring_laws, L)

  scale_ident : (c d x q : F) → c * d + x * (c * q) ≡ c * (d + x * q)
  scale_ident c d x q = simp (ring_laws, L)

  times_ident : (c x p q : F) → c * q + (𝟘 + x * (p * q)) ≡ (c + x * p) * q
  times_ident c x p q = simp (ring_laws, L)

  null_ident : (x : F) → 𝟘 + x * 𝟘 ≡ 𝟘
  null_ident x = simp (ring_laws, L)

  pub num_ident : (c x : F) → c + x * 𝟘 ≡ c
  num_ident c x = simp (ring_laws, L)

  variable_ident : (x : F) → 𝟘 + x * (𝟙 + x * 𝟘) ≡ x
  variable_ident x = simp (ring_laws, L)

  -- lists of coefficients: the polynomials in x
  module _ (x : F) (K : Coefs R) where
    open K use {C, num, plus, minus, times, null, value}

    abbrev pub poly_value : List C → F
    poly_value [] = 𝟘
    poly_value (c ∷ p) = value c + x * poly_value p

    abbrev pub poly_plus : List C → List C → List C
    poly_plus [] q = q
    poly_plus (c ∷ p) [] = c ∷ p
    poly_plus (c ∷ p) (d ∷ q) = plus c d ∷ poly_plus p q

    abbrev pub poly_minus : List C → List C
    poly_minus [] = []
    poly_minus (c ∷ p) = minus c ∷ poly_minus p

    abbrev pub poly_scale : C → List C → List C
    poly_scale c [] = []
    poly_scale c (d ∷ q) = times c d ∷ poly_scale c q

    abbrev pub poly_times : List C → List C → List C
    poly_times [] q = []
    poly_times (c ∷ p) q = poly_plus (poly_scale c q) (num 0 ∷ poly_times p q)

    abbrev pub poly_null : List C → Bool
    poly_null [] = true
    poly_null (c ∷ p) = null c && poly_null p

    pub poly_value-plus : (p q : List C) → poly_value (poly_plus p q) ≡ poly_value p + poly_value q
    poly_value-plus [] q = sym (zero-add R L (poly_value q))
    poly_value-plus (c ∷ p) [] = sym (add-zero R L _)
    poly_value-plus (c ∷ p) (d ∷ q) =
        ap₂ (λ s t. s + x * t) (K.value-plus c d) (poly_value-plus p q) ∙ plus_ident (value c) (value d) x (poly_value p) (poly_value q)

    pub poly_value-minus : (p : List C) → poly_value (poly_minus p) ≡ - poly_value p
    poly_value-minus [] = sym (neg-zero R L)
    poly_value-minus (c ∷ p) =
        ap₂ (λ s t. s + x * t) (K.value-minus c) (poly_value-minus p) ∙ minus_ident (value c) x (poly_value p)

    pub poly_value_scale : (c : C) (q : List C) → poly_value (poly_scale c q) ≡ value c * poly_value q
    poly_value_scale c [] = sym (mul-zero R L (value c))
    poly_value_scale c (d ∷ q) =
        ap₂ (λ s t. s + x * t) (K.value-times c d) (poly_value_scale c q) ∙ scale_ident (value c) (value d) x (poly_value q)

    pub poly_value-times : (p q : List C) → poly_value (poly_times p q) ≡ poly_value p * poly_value q
    poly_value-times [] q = sym (zero-mul R L (poly_value q))
    poly_value-times (c ∷ p) q =
        poly_value-plus (poly_scale c q) (num 0 ∷ poly_times p q)
        ∙ ap₂ (λ s t. s + t) (poly_value_scale c q) (ap₂ (λ s t. s + x * t) (K.value_num 0 ∙ L.nat-zero) (poly_value-times p q))
        ∙ times_ident (value c) x (poly_value p) (poly_value q)

    pub poly_value_null : (p : List C) → T (poly_null p) → poly_value p ≡ 𝟘
    poly_value_null [] h = refl
    poly_value_null (c ∷ p) h =
        ap₂ (λ s t. s + x * t) (K.value_null c (and_left (null c) (poly_null p) h)) (poly_value_null p (and_right (null c) (poly_null p) h))
        ∙ null_ident x

    abbrev pub polynomials : Coefs R
    polynomials =
        record {
          C = List C;
          num = λ n. num n ∷ [];
          plus = poly_plus;
          minus = poly_minus;
          times = poly_times;
          null = poly_null;
          value = poly_value;
          value_num = λ n. num_ident (value (num n)) x ∙ K.value_num n;
          value-plus = poly_value-plus;
          value-minus = poly_value-minus;
          value-times = poly_value-times;
          value_null = poly_value_null;
        }

  abbrev pub tower : List F → Coefs R
  tower [] = numbers
  tower (x ∷ xs) = polynomials x (tower xs)

  abbrev pub variable : (xs : List F) → ℕ → (tower xs).C
  variable [] i = numbers.num 0
  variable (x ∷ xs) zero = (tower xs).num 0 ∷ ((tower xs).num 1 ∷ [])
  variable (x ∷ xs) (suc i) = variable xs i ∷ []

  abbrev pub normal : (xs : List F) → Expr ℕ → (tower xs).C
  normal xs (var i) = variable xs i
  normal xs (con n) = (tower xs).num n
  normal xs (a ⊕ b) = (tower xs).plus (normal xs a) (normal xs b)
  normal xs (a ⊖ b) = (tower xs).plus (normal xs a) ((tower xs).minus (normal xs b))
  normal xs (a ⊗ b) = (tower xs).times (normal xs a) (normal xs b)

  abbrev pub env : List F → ℕ → F
  env xs i = get_or xs i 𝟘

  value_variable : (xs : List F) (i : ℕ) → (tower xs).value (variable xs i) ≡ env xs i
  value_variable [] i = numbers.value_num 0 ∙ L.nat-zero
  value_variable (x ∷ xs) zero =
      ap₂ (λ s t. s + x * (t + x * 𝟘)) ((tower xs).value_num 0 ∙ L.nat-zero)
      ((tower xs).value_num 1 ∙ L.nat-suc 0 ∙ ap (λ t. t + 𝟙) L.nat-zero ∙ zero-add R L 𝟙)
      ∙ variable_ident x
  value_variable (x ∷ xs) (suc i) = num_ident ((tower xs).value (variable xs i)) x ∙ value_variable xs i

  value_normal : (xs : List F) (e : Expr ℕ) → (tower xs).value (normal xs e) ≡ eval R (env xs) e
  unfolding eval
  value_normal xs (var i) = value_variable xs i
  value_normal xs (con n) = (tower xs).value_num n
  value_normal xs (a ⊕ b) =
      (tower xs).value-plus (normal xs a) (normal xs b) ∙ ap₂ ◌+◌ (value_normal xs a) (value_normal xs b)
  value_normal xs (a ⊖ b) =
      (tower xs).value-plus (normal xs a) ((tower xs).minus (normal xs b))
      ∙ ap₂ ◌+◌ (value_normal xs a) ((tower xs).value-minus (normal xs b) ∙ ap -◌ (value_normal xs b))
  value_normal xs (a ⊗ b) =
      (tower xs).value-times (normal xs a) (normal xs b) ∙ ap₂ ◌*◌ (value_normal xs a) (value_normal xs b)

  pub solve : (xs : List F) (a b : Expr ℕ) → T ((tower xs).null (normal xs (a ⊖ b))) → eval R (env xs) a ≡ eval R (env xs) b
  unfolding eval
  solve xs a b h =
      eq_of_sub R L _ _ (sym (value_normal xs (a ⊖ b)) ∙ (tower xs).value_null (normal xs (a ⊖ b)) h)
