-- The two maps are one_to_one between the residues and the range.
use mathlib.Core.Path.{◌≡◌, refl, sym, ap, ◌∙◌, subst}
use mathlib.Core.Bool.{Bool, true, false}
use Prim.Native.Nat.{ℕ, ◌<◌}
use lib.IntN.{ℤ, pos, negsuc, nat_abs}
use lib.Dec.{ltb}
use borrow.Author.Tests.{ltb-true, ltb-false}
use native.Mathlib.Omega.{arith}
use Rattle.algebra.specs.Prime.{p}
use Rattle.refusals.specs.Refusal.{greatest}
use Rattle.std.specs.Prelude.{Ok}
use Rattle.field_signed.specs.Signed.{signed_of, residue_of, InRange}
use Rattle.field_signed.specs.Answer.{to_signed, to_residue}
use Rattle.field_signed.specs.OneToOne.{OneToOne}
use Rattle.field_signed.proofs.Laws.{as_it_is, minus-p, by_size}
use Rattle.field_signed.proofs.Laws.{signed_given, signed_refused, residue_given, residue_refused}

pub in_range : (r : ℕ) → r < p → InRange (signed_of r)
in_range r h = by_size r InRange h (λ k. k) (λ k. omega arith)

pub back : (r : ℕ) → r < p → residue_of (signed_of r) ≡ r
back r h = by_size r (λ z. residue_of z ≡ r) h (λ k. refl) (λ k. omega arith)

pub below : (z : ℤ) → InRange z → residue_of z < p
below (pos n) h = omega arith
below (negsuc n) h = omega arith

pub forth : (z : ℤ) → InRange z → signed_of (residue_of z) ≡ z
forth (pos n) h = as_it_is n h
forth (negsuc n) h = minus-p _ (omega arith) (omega arith) ∙ ap negsuc (omega arith)

-- the answers: a value, or a refusal where r is not below p, or z not in the range
signed_back : (r : ℕ) (z : ℤ) → to_signed r ≡ Ok z → to_residue z ≡ Ok r
signed_back r z e = go (ltb r p) refl
  where
    go : (b : Bool) → ltb r p ≡ b → to_residue z ≡ Ok r
    go true h =
        let k : r < p = ltb-true _ _ h in
        let q : signed_of r ≡ z = cc (signed_given r k) in
        residue_given z (subst InRange q (in_range r k)) ∙ ap (λ y. Ok (residue_of y)) (sym q) ∙ ap Ok (back r k)
    go false h = absurd (let n : ◌≡◌ {A = ℕ} 0 1 = cc (signed_refused r (ltb-false _ _ h)) in omega arith)

residue-back : (r : ℕ) (z : ℤ) → to_residue z ≡ Ok r → to_signed r ≡ Ok z
residue-back r z e = go (ltb greatest (nat_abs z)) refl
  where
    go : (b : Bool) → ltb greatest (nat_abs z) ≡ b → to_signed r ≡ Ok z
    go true h = absurd (let n : ◌≡◌ {A = ℕ} 0 1 = cc (residue_refused z (ltb-true _ _ h)) in omega arith)
    go false h =
        let k : InRange z = ltb-false _ _ h in
        let q : residue_of z ≡ r = cc (residue_given z k) in
        signed_given r (subst (λ s. s < p) q (below z k)) ∙ ap (λ s. Ok (signed_of s)) (sym q) ∙ ap Ok (forth z k)

pub one_to_one : OneToOne
one_to_one =
    record {
      numbers = refl;
      in_range = in_range;
      below = below;
      back = back;
      forth = forth;
      signed_given = signed_given;
      residue_given = residue_given;
      exactly_where = λ r z. (signed_back r z, residue-back r z);
    }
