-- Operations, the laws of a commutative ring and of an integral domain, and maps that keep the operations.
use Rattle.std.specs.Prelude.{◌≡◌, ◌⊎◌, ◌≢◌, ℕ, suc}

-- operations alone, with no law: `nat n` is the number n as an element
pub record Ops : Type 1 where
  pub F : Type 0
  pub zero : F
  pub one : F
  pub nat : ℕ → F
  pub add : F → F → F
  pub neg : F → F
  pub mul : F → F → F

-- a difference
abbrev pub sub : (R : Ops) → R.F → R.F → R.F
sub R a b = R.add a (R.neg b)

-- a commutative ring
pub record IsRing (R : Ops) : Type 0 where
  pub nat-zero : R.nat 0 ≡ R.zero
  pub nat-suc : (n : ℕ) → R.nat (suc n) ≡ R.add (R.nat n) R.one
  pub add_comm : (a b : R.F) → R.add a b ≡ R.add b a
  pub add_assoc : (a b c : R.F) → R.add (R.add a b) c ≡ R.add a (R.add b c)
  pub zero-add : (a : R.F) → R.add R.zero a ≡ a
  pub neg-add : (a : R.F) → R.add (R.neg a) a ≡ R.zero
  pub mul_comm : (a b : R.F) → R.mul a b ≡ R.mul b a
  pub mul_assoc : (a b c : R.F) → R.mul (R.mul a b) c ≡ R.mul a (R.mul b c)
  pub one-mul : (a : R.F) → R.mul R.one a ≡ a
  pub mul-add : (a b c : R.F) → R.mul a (R.add b c) ≡ R.add (R.mul a b) (R.mul a c)

-- an integral domain in which equality is decided
pub record IsDomain (R : Ops) : Type 0 where
  pub is_ring : IsRing R
  pub mul-eq-zero : (a b : R.F) → R.mul a b ≡ R.zero → (a ≡ R.zero) ⊎ (b ≡ R.zero)
  pub one-ne-zero : R.one ≢ R.zero
  pub discrete : Discrete R.F

-- a homomorphism: a map that keeps the operations
pub record Hom (R S : Ops) : Type 0 where
  pub on : R.F → S.F
  pub on_zero : on R.zero ≡ S.zero
  pub on_one : on R.one ≡ S.one
  pub on_nat : (n : ℕ) → on (R.nat n) ≡ S.nat n
  pub on_add : (a b : R.F) → on (R.add a b) ≡ S.add (on a) (on b)
  pub on_neg : (a : R.F) → on (R.neg a) ≡ S.neg (on a)
  pub on_mul : (a b : R.F) → on (R.mul a b) ≡ S.mul (on a) (on b)
