-- The residues modulo m are a commutative ring.
use mathlib.Core.Path.{◌≡◌, refl, sym, ap, ◌∙◌}
use Prim.Native.Nat.{ℕ, zero, ◌+◌, ◌*◌, ◌/◌, ◌%◌, ◌<◌, Fin}
use native.Mathlib.Nat.{add_comm, add_assoc, zero-add, mul_comm, mul_assoc, one-mul, mul-add, add-mul, mod-eq_of_lt, mod-add-mod, add-mod-mod, add-mod, mod_self, zero-mod, sub-add_cancel, le_of_lt, div-add-mod, mul-add-mod_self_left}
use native.Mathlib.Numerals.{suc-eq-add-one}
use Rattle.algebra.specs.Ring.{IsRing}
use Rattle.algebra.specs.Modulo.{residue, modulo}

pub mod-mul-mod : (n m k : ℕ) → (n % m * k) % m ≡ (n * k) % m
mod-mul-mod n m k =
    sym (mul-add-mod_self_left m (n / m * k) (n % m * k))
    ∙ ap (λ t. t % m) (sym (ap (λ t. t + n % m * k) (mul_assoc m (n / m) k)) ∙ sym (add-mul (m * (n / m)) (n % m) k) ∙ ap (λ t. t * k) (div-add-mod n m))

pub mul-mod-mod : (n m k : ℕ) → (n * (k % m)) % m ≡ (n * k) % m
mul-mod-mod n m k = ap (λ t. t % m) (mul_comm n (k % m)) ∙ mod-mul-mod k m n ∙ ap (λ t. t % m) (mul_comm k n)

module _ (m : ℕ) (pos : zero < m) where
  pub residue_of_lem : (a : Fin m) → residue m pos a.0 ≡ a
  residue_of_lem a = native.Mathlib.Fin.val_path (mod-eq_of_lt a.1)

  pub modulo_is_ring : IsRing (modulo m pos)
  modulo_is_ring =
      record {
        nat-zero = refl;
        nat-suc = λ n. native.Mathlib.Fin.val_path (ap (λ t. t % m) (suc-eq-add-one n) ∙ add-mod n 1 m);
        add_comm = λ a b. ap (residue m pos) (add_comm a.0 b.0);
        add_assoc = λ a b c. native.Mathlib.Fin.val_path (simp (mod-add-mod, add-mod-mod, add_assoc));
        zero-add = λ a. native.Mathlib.Fin.val_path (simp (zero-mod, zero-add) (mod-eq_of_lt a.1));
        neg-add = λ a. native.Mathlib.Fin.val_path (simp (mod-add-mod, sub-add_cancel (le_of_lt a.1), mod_self, zero-mod));
        mul_comm = λ a b. ap (residue m pos) (mul_comm a.0 b.0);
        mul_assoc = λ a b c. native.Mathlib.Fin.val_path (simp (mod-mul-mod, mul-mod-mod, mul_assoc));
        one-mul = λ a. native.Mathlib.Fin.val_path (simp (mod-mul-mod, one-mul) (mod-eq_of_lt a.1));
        mul-add = λ a b c. native.Mathlib.Fin.val_path (simp (mod-add-mod, add-mod-mod, mul-mod-mod, mul-add));
      }
