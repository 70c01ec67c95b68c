-- Euclid's lemma: a prime that divides a product divides one of the factors.
use mathlib.Core.Path.{◌≡◌, ◌∙◌}
use mathlib.Core.Logic.{◌⊎◌, inl, inr}
use Prim.Native.Nat.{ℕ, zero, suc, ◌+◌, ◌*◌, ◌/◌, ◌%◌, ◌≤◌, ◌<◌, ◌∣◌}
use native.Mathlib.Nat.{mod-lt, div-add-mod', add-mul, mul_assoc, one-mul, pos_of_ne-zero, dvd-add_iff_right, dvd-mul_right, dvd-mul_left_of_dvd, dvd_of_mod-eq-zero, mod-eq-zero_of_dvd}
use native.Mathlib.Omega.{arith}
use native.Mathlib.Decide.{ℕ_discrete}
use Rattle.algebra.specs.Prime.{IsPrime}
use Rattle.algebra.proofs.Modulo.{mod-mul-mod}

module _ (p : ℕ) (P : IsPrime p) where
  -- a number a with 0 < a < p is cancelled: by p % a, which is smaller and not zero
  cancel_step : (a b : ℕ) → 0 < a → a < p → p ∣ a * b → (0 < p % a → p % a < a → p ∣ p % a * b → p ∣ b) → p ∣ b
  cancel_step a b l u d below = go (ℕ_discrete a 1)
    where
      rest : p / a * (a * b) + p % a * b ≡ p * b
      rest = cc (mul_assoc (p / a) a b, add-mul (p / a * a) (p % a) b, div-add-mod' p a)

      go : Dec (a ≡ 1) → p ∣ b
      go (yes e) = rw (e, one-mul) at d
      go (no n) =
          below (pos_of_ne-zero (P.no_divisor a (omega arith) u)) (mod-lt p l)
          ((dvd-add_iff_right p (dvd-mul_left_of_dvd p d (p / a))).1 (rw rest (dvd-mul_right p b)))

  cancel : (fuel a b : ℕ) → a ≤ fuel → 0 < a → a < p → p ∣ a * b → p ∣ b
  cancel zero a b f l u d = absurd (omega arith)
  cancel (suc fuel) a b f l u d =
      cancel_step a b l u d (λ z s e. cancel fuel (p % a) b (omega arith) z (omega arith) e)

  pub euclid : (a b : ℕ) → (a * b) % p ≡ 0 → (a % p ≡ 0) ⊎ (b % p ≡ 0)
  euclid a b e = go (ℕ_discrete (a % p) 0)
    where
      go : Dec (a % p ≡ 0) → (a % p ≡ 0) ⊎ (b % p ≡ 0)
      go (yes z) = inl z
      go (no n) =
          inr (mod-eq-zero_of_dvd p (cancel (a % p) (a % p) b (omega arith) (pos_of_ne-zero n) (mod-lt a (omega (arith, P.one-lt)))
          (dvd_of_mod-eq-zero p (mod-mul-mod a p b ∙ e))))
