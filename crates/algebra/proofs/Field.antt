-- p is prime, the residues modulo p are an integral domain, and numbers stand for elements: `𝔾.nat` takes every number to an
-- element, and two numbers to one element exactly where they leave one remainder by p.
use mathlib.Core.Path.{◌≡◌, refl, sym, ap, ◌∙◌}
use mathlib.Core.Logic.{◌⊎◌, inl, inr}
use Prim.Native.Nat.{ℕ, ◌+◌, ◌-◌, ◌%◌, ◌^◌, ◌<◌, ◌≤◌, Fin}
use native.Mathlib.Nat.{mod-eq_of_lt, zero-mod, suc-ne-zero, add-sub_of_le}
use native.Mathlib.Decide.{Fin-discrete}
use lib.Dec.{lit<}
use Rattle.algebra.specs.Ring.{IsRing, IsDomain}
use Rattle.algebra.specs.Prime.{IsPrime, p}
use Rattle.algebra.specs.Modulo.{residue, modulo}
use Rattle.algebra.specs.Field.{𝔾, val}
use Rattle.algebra.proofs.Ring.{nat-add, nat-mul, neg-of_add}
use Rattle.algebra.proofs.Modulo.{modulo_is_ring, residue_of_lem}
use Rattle.algebra.proofs.Prime.{euclid}
use Rattle.algebra.proofs.Proth.{proth}

-- the residues modulo a prime are an integral domain
module _ (m : ℕ) (P : IsPrime m) (pos : 0 < m) where
  small : (a : Fin m) → a.0 % m ≡ 0 → a ≡ residue m pos 0
  small a e = native.Mathlib.Fin.val_path (sym (mod-eq_of_lt a.1) ∙ e ∙ sym (zero-mod m))

  zeros : (a b : Fin m) → (a.0 % m ≡ 0) ⊎ (b.0 % m ≡ 0) → (a ≡ residue m pos 0) ⊎ (b ≡ residue m pos 0)
  zeros a b (inl e) = inl (small a e)
  zeros a b (inr e) = inr (small b e)

  pub modulo_is_domain : IsDomain (modulo m pos)
  modulo_is_domain =
      record {
        is_ring = modulo_is_ring m pos;
        mul-eq-zero = λ a b e. zeros a b (euclid m P a.0 b.0 (ap (λ t. t.0) e ∙ zero-mod m));
        one-ne-zero = λ e. suc-ne-zero 0 (sym (mod-eq_of_lt P.one-lt) ∙ ap (λ t. t.0) e ∙ zero-mod m);
        discrete = Fin-discrete m;
      }

pub p-is : p ≡ 2 ^ 64 - 2 ^ 32 + 1
p-is = refl

-- 31 squarings of 1753635133440165772, which is 7 ^ ((p - 1) / 2 ^ 32), give p - 1
pub p_prime : IsPrime p
p_prime = proth p 31 1753635133440165772 (lit< tt) refl (lit< tt) refl

pub 𝔾_is_domain : IsDomain 𝔾
unfolding 𝔾
𝔾_is_domain = modulo_is_domain p p_prime (lit< tt)

abbrev pub 𝔾_is_ring : IsRing 𝔾
𝔾_is_ring = 𝔾_is_domain.is_ring

-- numbers and elements
pub val-lt : (a : 𝔾.F) → val a < p
unfolding 𝔾 val
val-lt a = a.1

pub val-nat : (n : ℕ) → val (𝔾.nat n) ≡ n % p
unfolding 𝔾 val
val-nat n = refl

pub nat-val : (a : 𝔾.F) → 𝔾.nat (val a) ≡ a
unfolding 𝔾 val
nat-val a = residue_of_lem p (lit< tt) a

pub nat-mod : (n : ℕ) → 𝔾.nat (n % p) ≡ 𝔾.nat n
nat-mod n = ap 𝔾.nat (sym (val-nat n)) ∙ nat-val (𝔾.nat n)

pub mod_of_nat : (m n : ℕ) → 𝔾.nat m ≡ 𝔾.nat n → m % p ≡ n % p
mod_of_nat m n e = sym (val-nat m) ∙ ap val e ∙ val-nat n

pub nat_of_mod : (m n : ℕ) → m % p ≡ n % p → 𝔾.nat m ≡ 𝔾.nat n
nat_of_mod m n e = sym (nat-mod m) ∙ ap 𝔾.nat e ∙ nat-mod n

-- canonical numbers are told apart by their elements
pub eq_of_nat : (m n : ℕ) → m < p → n < p → 𝔾.nat m ≡ 𝔾.nat n → m ≡ n
eq_of_nat m n l k e = sym (mod-eq_of_lt l) ∙ mod_of_nat m n e ∙ mod-eq_of_lt k

pub nat-neg : (b : ℕ) → b ≤ p → 𝔾.nat (p - b) ≡ 𝔾.neg (𝔾.nat b)
nat-neg b l =
    neg-of_add 𝔾 𝔾_is_ring (𝔾.nat b) (𝔾.nat (p - b))
    (sym (nat-add 𝔾 𝔾_is_ring b (p - b)) ∙ ap 𝔾.nat (add-sub_of_le l) ∙ nat_of_mod p 0 refl ∙ 𝔾_is_ring.nat-zero)

-- takes the element of a number of sums, products and remainders apart: `simp (nat_laws, 𝔾_is_ring)`
pub ruleset nat_laws = (nat-mod, nat-add, nat-mul)
