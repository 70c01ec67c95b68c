-- The laws of a commutative ring, and the set `ring_laws` with which `simp` proves small identities.
use mathlib.Core.Path.{◌≡◌, sym, ◌∙◌}
use Prim.Native.Nat as N
use native.Mathlib.Nat as ℕ_laws
use Rattle.algebra.specs.Ring.{Ops, IsRing}

module _ (R : Ops) (L : IsRing R) where
  open R use {F, zero as 𝟘, one as 𝟙, nat, add as ◌+◌, neg as -◌, mul as ◌*◌}
  open L use {nat-zero, nat-suc}

  infixl 65 ◌+◌
  infixl 70 ◌*◌
  infix 75 -◌
  -- the laws again, as lemmas that a set can list
  pub add_comm : (a b : F) → a + b ≡ b + a
  add_comm = L.add_comm

  pub add_assoc : (a b c : F) → a + b + c ≡ a + (b + c)
  add_assoc = L.add_assoc

  pub zero-add : (a : F) → 𝟘 + a ≡ a
  zero-add = L.zero-add

  pub neg-add : (a : F) → - a + a ≡ 𝟘
  neg-add = L.neg-add

  pub mul_comm : (a b : F) → a * b ≡ b * a
  mul_comm = L.mul_comm

  pub mul_assoc : (a b c : F) → a * b * c ≡ a * (b * c)
  mul_assoc = L.mul_assoc

  pub one-mul : (a : F) → 𝟙 * a ≡ a
  one-mul = L.one-mul

  pub mul-add : (a b c : F) → a * (b + c) ≡ a * b + a * c
  mul-add = L.mul-add

  pub add_left_comm : (a b c : F) → a + (b + c) ≡ b + (a + c)
  add_left_comm a b c = cc (add_assoc a b c, add_assoc b a c, add_comm a b)

  pub mul_left_comm : (a b c : F) → a * (b * c) ≡ b * (a * c)
  mul_left_comm a b c = cc (mul_assoc a b c, mul_assoc b a c, mul_comm a b)

  pub add-mul : (a b c : F) → (a + b) * c ≡ a * c + b * c
  add-mul a b c = cc (mul_comm (a + b) c, mul-add c a b, mul_comm a c, mul_comm b c)

  pub add-zero : (a : F) → a + 𝟘 ≡ a
  add-zero a = cc (add_comm a 𝟘, zero-add a)

  pub add-neg : (a : F) → a + - a ≡ 𝟘
  add-neg a = cc (add_comm a (- a), neg-add a)

  pub neg_add_cancel : (a b : F) → - a + (a + b) ≡ b
  neg_add_cancel a b = cc (add_assoc (- a) a b, neg-add a, zero-add b)

  pub add_neg_cancel : (a b : F) → a + (- a + b) ≡ b
  add_neg_cancel a b = cc (add_assoc a (- a) b, add-neg a, zero-add b)

  pub add_cancel : (a b c : F) → a + b ≡ a + c → b ≡ c
  add_cancel a b c e = cc (neg_add_cancel a b, neg_add_cancel a c)

  pub mul-zero : (a : F) → a * 𝟘 ≡ 𝟘
  mul-zero a = add_cancel (a * 𝟘) (a * 𝟘) 𝟘 (cc (mul-add a 𝟘 𝟘, zero-add 𝟘, add-zero (a * 𝟘)))

  pub zero-mul : (a : F) → 𝟘 * a ≡ 𝟘
  zero-mul a = cc (mul_comm 𝟘 a, mul-zero a)

  pub mul-one : (a : F) → a * 𝟙 ≡ a
  mul-one a = cc (mul_comm a 𝟙, one-mul a)

  pub neg-of_add : (a b : F) → a + b ≡ 𝟘 → b ≡ - a
  neg-of_add a b e = add_cancel a b (- a) (cc (add-neg a))

  pub neg-neg : (a : F) → - - a ≡ a
  neg-neg a = sym (neg-of_add (- a) a (neg-add a))

  pub neg-zero : - 𝟘 ≡ 𝟘
  neg-zero = sym (neg-of_add 𝟘 𝟘 (zero-add 𝟘))

  pub neg-mul : (a b : F) → - a * b ≡ - (a * b)
  neg-mul a b = neg-of_add (a * b) (- a * b) (cc (add-mul a (- a) b, add-neg a, zero-mul b))

  pub mul-neg : (a b : F) → a * - b ≡ - (a * b)
  mul-neg a b = cc (mul_comm a (- b), neg-mul b a, mul_comm a b)

  pub neg_add_distrib : (a b : F) → - (a + b) ≡ - a + - b
  neg_add_distrib a b =
      sym (neg-of_add (a + b) (- a + - b) (simp (add_assoc, add_left_comm b (- a) (- b), add_neg_cancel, add-neg)))

  pub eq_of_sub : (a b : F) → a + - b ≡ 𝟘 → a ≡ b
  eq_of_sub a b e = cc (neg-neg b, neg-of_add (- b) a (add_comm (- b) a ∙ e))

  pub sub_of_eq : (a b : F) → a ≡ b → a + - b ≡ 𝟘
  sub_of_eq a b e = cc (add-neg b)

  -- the numbers of the ring: `nat` is a homomorphism
  pub nat-add : (m n : N.ℕ) → nat (N.◌+◌ m n) ≡ nat m + nat n
  nat-add m N.zero = cc (ℕ_laws.add-zero m, nat-zero, add-zero (nat m))
  nat-add m (N.suc n) =
      cc (ℕ_laws.add-suc m n, nat-suc (N.◌+◌ m n), nat-add m n, nat-suc n, add_assoc (nat m) (nat n) 𝟙)

  pub nat-mul : (m n : N.ℕ) → nat (N.◌*◌ m n) ≡ nat m * nat n
  nat-mul m N.zero = cc (ℕ_laws.mul-zero m, nat-zero, mul-zero (nat m))
  nat-mul m (N.suc n) =
      cc (ℕ_laws.mul-suc m n, nat-add (N.◌*◌ m n) m, nat-mul m n, nat-suc n, mul-add (nat m) (nat n) 𝟙, mul-one (nat m))

-- proves an identity of the ring whose laws are L: `simp (ring_laws, L)`
pub ruleset ring_laws = (
  add-mul,
  mul-add,
  mul-neg,
  neg-mul,
  neg_add_distrib,
  neg-neg,
  neg-zero,
  add-zero,
  zero-add,
  mul-zero,
  zero-mul,
  mul-one,
  one-mul,
  add_assoc,
  mul_assoc,
  add_comm,
  mul_comm,
  add_left_comm,
  mul_left_comm,
  add-neg,
  neg-add,
  add_neg_cancel,
  neg_add_cancel,
)
