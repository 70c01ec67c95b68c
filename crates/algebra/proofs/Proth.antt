-- Proth's test: p odd and below 4 ^ (k + 1), with a number c whose 2^k-th power modulo p is p - 1, is prime.
use mathlib.Core.Path.{◌≡◌, sym, ap, ◌∙◌}
use mathlib.Core.Logic.{◌≢◌}
use Prim.Native.Nat.{ℕ, zero, suc, ◌*◌, ◌/◌, ◌%◌, ◌^◌, ◌≤◌, ◌<◌, ◌∣◌}
use native.Mathlib.Nat.{mod-mod_of_dvd, two-pow-succ, add-mod, zero-mod, le_of_dvd, dvd_of_mod-eq-zero, mod-eq-zero_of_dvd, div-mul_cancel, dvd-mul_right, mul-le-mul}
use native.Mathlib.Omega.{arith}
use native.Mathlib.Numerals.{one-add}
use Rattle.algebra.specs.Prime.{IsPrime}
use Rattle.algebra.specs.Modulo.{residue, modulo}
use Rattle.algebra.proofs.Ring.{neg-of_add, add-neg, nat-mul, one-mul}
use Rattle.algebra.proofs.Modulo.{modulo_is_ring}
use Rattle.algebra.proofs.Power.{pow, pow-zero, pow-suc, pow-add, mul-pow, distinct}
use Rattle.algebra.proofs.Lists.{pigeonhole-ℕ}

-- k squarings modulo p
abbrev pub squares : ℕ → ℕ → ℕ → ℕ
squares p zero c = c
squares p (suc k) c = squares p k ((c * c) % p)

module _ (p q : ℕ) (one-lt : 1 < q) (d : q ∣ p) where
  pos : 0 < q
  pos = omega arith

  -- the squarings modulo p are, modulo a divisor of p, a power
  squares_pow : (k c : ℕ) → residue q pos (squares p k c) ≡ pow (modulo q pos) (residue q pos c) (2 ^ k)
  squares_pow zero c =
      sym (pow-suc (modulo q pos) (modulo_is_ring q pos) (residue q pos c) 0
      ∙ ap (λ t. (modulo q pos).mul t (residue q pos c)) (pow-zero (modulo q pos) (modulo_is_ring q pos) (residue q pos c))
      ∙ one-mul (modulo q pos) (modulo_is_ring q pos) (residue q pos c))
  squares_pow (suc k) c =
      squares_pow k ((c * c) % p)
      ∙ ap (λ t. pow (modulo q pos) t (2 ^ k)) (native.Mathlib.Fin.val_path (mod-mod_of_dvd q (c * c) d) ∙ nat-mul (modulo q pos) (modulo_is_ring q pos) c c)
      ∙ mul-pow (modulo q pos) (modulo_is_ring q pos) (residue q pos c) (residue q pos c) (2 ^ k)
      ∙ sym (pow-add (modulo q pos) (modulo_is_ring q pos) (residue q pos c) (2 ^ k) (2 ^ k))
      ∙ ap (pow (modulo q pos) (residue q pos c)) (sym (two-pow-succ k))

  minus_one : (n : ℕ) → suc n ≡ p → residue q pos n ≡ (modulo q pos).neg (modulo q pos).one
  minus_one n e =
      neg-of_add (modulo q pos) (modulo_is_ring q pos) (residue q pos 1) (residue q pos n)
      (native.Mathlib.Fin.val_path (sym (add-mod 1 n q) ∙ ap (λ t. t % q) (one-add n ∙ e) ∙ mod-eq-zero_of_dvd q d ∙ sym (zero-mod q)))

  ne : p % 2 ≡ 1 → (modulo q pos).neg (modulo q pos).one ≢ (modulo q pos).one
  ne o e = odd (rw (← two) (mod-eq-zero_of_dvd q d))
    where
      double : (modulo q pos).add (residue q pos 1) (residue q pos 1) ≡ residue q pos 0
      double =
          ap ((modulo q pos).add (residue q pos 1)) (sym e) ∙ add-neg (modulo q pos) (modulo_is_ring q pos) (residue q pos 1)

      two : q ≡ 2
      two =
          let h : q ≤ 2 = le_of_dvd (omega arith) (dvd_of_mod-eq-zero q (add-mod 1 1 q ∙ ap (λ t. t.0) double ∙ zero-mod q)) in
          omega arith

      odd : p % 2 ≡ 0 → ⊥
      odd z = omega arith

  pub divisor_bound : (k c : ℕ) → p % 2 ≡ 1 → suc (squares p k c) ≡ p → 2 ^ suc k ≤ q
  divisor_bound k c o e =
      pigeonhole-ℕ (λ i. (pow (modulo q pos) (residue q pos c) i).0) (2 ^ suc k) q (λ i. (pow (modulo q pos) (residue q pos c) i).1)
      (λ i j l u h. distinct (modulo q pos) (modulo_is_ring q pos) (ne o) k (residue q pos c)
      (sym (squares_pow k c) ∙ minus_one (squares p k c) e) i j l u (native.Mathlib.Fin.val_path h))

big : (r d : ℕ) {p : ℕ} → r * d ≡ p → 1 < d → d < p → 1 < r
big zero d e a b = absurd (omega arith)
big (suc zero) d e a b = absurd (omega arith)
big (suc (suc r)) d e a b = omega arith

pub proth : (p k c : ℕ) → 1 < p → p % 2 ≡ 1 → p < 2 ^ suc k * 2 ^ suc k → suc (squares p k c) ≡ p → IsPrime p
proth p k c l o u e = record { one-lt = l; no_divisor = no }
  where
    no : (d : ℕ) → 1 < d → d < p → p % d ≢ 0
    no d a b z =
        let f : d ∣ p = dvd_of_mod-eq-zero d z in
        let g : p / d * d ≡ p = div-mul_cancel d f in
        let h : 1 < p / d = big (p / d) d g a b in
        let low : 2 ^ suc k ≤ d = divisor_bound p d a f k c o e in
        let high : 2 ^ suc k ≤ p / d = divisor_bound p (p / d) h (rw g at (dvd-mul_right (p / d) d)) k c o e in
        let m : 2 ^ suc k * 2 ^ suc k ≤ p / d * d = mul-le-mul high low in
        omega arith
