-- Powers in a ring, and the order of an element whose 2^k-th power is -1.
use mathlib.Core.Path.{◌≡◌, refl, sym, ap, ◌∙◌}
use mathlib.Core.Logic.{◌⊎◌, inl, inr, ◌≢◌}
use Prim.Native.Nat as N
use Prim.Native.Nat.{ℕ, suc, ◌^◌, ◌/◌, ◌%◌, ◌<◌}
use native.Mathlib.Nat.{add-suc as ℕ-add-suc, add-zero as ℕ-add-zero, two-pow-succ}
use native.Mathlib.Omega.{arith}
use native.Mathlib.Decide.{ℕ_discrete}
use Rattle.algebra.specs.Ring.{Ops, IsRing}
use Rattle.algebra.proofs.Ring.{ring_laws, mul-one, mul_assoc, mul-neg, neg-neg, one-mul}

module _ (R : Ops) where
  pub pow : R.F → ℕ → R.F
  pow a N.zero = R.one
  pow a (suc n) = R.mul (pow a n) a

module _ (R : Ops) (L : IsRing R) where
  open R use {F, one as 𝟙, neg as -◌, mul as ◌*◌}

  infixl 70 ◌*◌
  infix 75 -◌
  pub pow-zero : (a : F) → pow R a 0 ≡ 𝟙
  unfolding pow
  pow-zero a = refl

  pub pow-suc : (a : F) (n : ℕ) → pow R a (suc n) ≡ pow R a n * a
  unfolding pow
  pow-suc a n = refl

  pub pow-add : (a : F) (m n : ℕ) → pow R a (N.◌+◌ m n) ≡ pow R a m * pow R a n
  pow-add a m N.zero = cc (ℕ-add-zero m, pow-zero a, mul-one R L (pow R a m))
  pow-add a m (suc n) =
      cc (ℕ-add-suc m n, pow-suc a (N.◌+◌ m n), pow-add a m n, pow-suc a n, mul_assoc R L (pow R a m) (pow R a n) a)

  pub mul-pow : (a b : F) (n : ℕ) → pow R (a * b) n ≡ pow R a n * pow R b n
  mul-pow a b N.zero = cc (pow-zero (a * b), pow-zero a, pow-zero b, one-mul R L 𝟙)
  mul-pow a b (suc n) =
      rw (pow-suc (a * b) n, pow-suc a n, pow-suc b n, mul-pow a b n) (simp (ring_laws, L))

  pub one-pow : (n : ℕ) → pow R 𝟙 n ≡ 𝟙
  one-pow N.zero = pow-zero 𝟙
  one-pow (suc n) = cc (pow-suc 𝟙 n, one-pow n, mul-one R L 𝟙)

  pub pow-mul : (a : F) (m n : ℕ) → pow R a (N.◌*◌ m n) ≡ pow R (pow R a m) n
  pow-mul a m N.zero = rw (native.Mathlib.Nat.mul-zero m, pow-zero a, pow-zero (pow R a m))
  pow-mul a m (suc n) =
      rw (native.Mathlib.Nat.mul-suc m n, pow-add a (N.◌*◌ m n) m, pow-suc (pow R a m) n, pow-mul a m n)

  -- an odd power of -1
  neg-one-pow : (e : ℕ) → pow R (- 𝟙) (suc (N.◌+◌ e e)) ≡ - 𝟙
  neg-one-pow e =
      rw (pow-suc (- 𝟙) (N.◌+◌ e e), pow-add (- 𝟙) e e, ← mul-pow (- 𝟙) (- 𝟙) e, mul-neg R L (- 𝟙) 𝟙, mul-one R L (- 𝟙), neg-neg R L 𝟙, one-pow e, one-mul R L (- 𝟙))

  halves : (d : ℕ) → (d ≡ N.◌+◌ (d / 2) (d / 2)) ⊎ (d ≡ suc (N.◌+◌ (d / 2) (d / 2)))
  halves d = go (ℕ_discrete (d % 2) 0)
    where
      go : Dec (d % 2 ≡ 0) → (d ≡ N.◌+◌ (d / 2) (d / 2)) ⊎ (d ≡ suc (N.◌+◌ (d / 2) (d / 2)))
      go (yes e) = inl (omega arith)
      go (no n) = inr (omega arith)

  -- if c ^ (2 ^ k) is -1, and -1 is not 1, then no power of c below 2 ^ (k + 1) is 1
  module _ (ne : - 𝟙 ≢ 𝟙) where
    odd_ne : (c : F) (k e : ℕ) → pow R c (2 ^ k) ≡ - 𝟙 → pow R c (suc (N.◌+◌ e e)) ≢ 𝟙
    odd_ne c k e m o =
        ne (sym (neg-one-pow e) ∙ ap (λ t. pow R t (suc (N.◌+◌ e e))) (sym m) ∙ sym (pow-mul c (2 ^ k) (suc (N.◌+◌ e e)))
        ∙ ap (pow R c) (native.Mathlib.Nat.mul_comm (2 ^ k) (suc (N.◌+◌ e e))) ∙ pow-mul c (suc (N.◌+◌ e e)) (2 ^ k) ∙ ap (λ t. pow R t (2 ^ k)) o ∙ one-pow (2 ^ k))

    pub order : (k d : ℕ) (c : F) → pow R c (2 ^ k) ≡ - 𝟙 → 0 < d → d < 2 ^ suc k → pow R c d ≢ 𝟙
    order N.zero d c m l u o =
        let e : d ≡ 1 = omega arith in
        odd_ne c 0 0 m (rw e at o)
    order (suc k) d c m l u o =
        step (halves d) (λ a b. order k (d / 2) (c * c) (mul-pow c c (2 ^ k) ∙ sym (pow-add c (2 ^ k) (2 ^ k)) ∙ ap (pow R c) (sym (two-pow-succ k)) ∙ m) a b)
      where
        step : (d ≡ N.◌+◌ (d / 2) (d / 2)) ⊎ (d ≡ suc (N.◌+◌ (d / 2) (d / 2))) → (0 < d / 2 → d / 2 < 2 ^ suc k → pow R (c * c) (d / 2) ≢ 𝟙) → ⊥
        step (inl e) h =
            h (omega arith) (omega (arith, two-pow-succ (suc k)))
            (mul-pow c c (d / 2) ∙ sym (pow-add c (d / 2) (d / 2)) ∙ ap (pow R c) (sym e) ∙ o)
        step (inr e) h = odd_ne c (suc k) (d / 2) m (ap (pow R c) (sym e) ∙ o)

    -- so its first 2 ^ (k + 1) powers are distinct
    pub distinct : (k : ℕ) (c : F) → pow R c (2 ^ k) ≡ - 𝟙 → (i j : ℕ) → i < j → j < 2 ^ suc k → pow R c i ≢ pow R c j
    distinct k c m i j l u e =
        order k (N.◌-◌ j i) c m (omega arith) (omega arith)
        (sym (mul-one R L (pow R c (N.◌-◌ j i))) ∙ ap (λ t. pow R c (N.◌-◌ j i) * t) (sym full)
        ∙ sym (pow-add c (N.◌-◌ j i) n) ∙ ap (pow R c) shift ∙ pow-add c j (N.◌-◌ n i) ∙ ap (λ t. t * pow R c (N.◌-◌ n i)) (sym e)
        ∙ sym (pow-add c i (N.◌-◌ n i)) ∙ ap (pow R c) back ∙ full)
      where
        n : ℕ
        n = 2 ^ suc k

        full : pow R c n ≡ 𝟙
        full =
            ap (pow R c) (two-pow-succ k) ∙ pow-add c (2 ^ k) (2 ^ k)
            ∙ cc (m, mul-neg R L (- 𝟙) 𝟙, mul-one R L (- 𝟙), neg-neg R L 𝟙)

        shift : N.◌+◌ (N.◌-◌ j i) n ≡ N.◌+◌ j (N.◌-◌ n i)
        shift = omega arith

        back : N.◌+◌ i (N.◌-◌ n i) ≡ n
        back = omega arith
