-- Polynomials over the field, as lists of products of cells with coefficients, and an expression as one of them.
use mathlib.Core.Path.{◌≡◌, refl, sym, ap, ap₂, ◌∙◌}
use mathlib.Core.Logic.{◌≢◌}
use mathlib.Core.Bool.{Bool, true, false, not, cond, ◌&&◌, ◌||◌, true≢false}
use mathlib.Core.List.{List, [], ◌∷◌}
use Prim.Native.Nat as N
use Prim.Native.Nat.{ℕ, ◌%◌}
use lib.Dec.{eqb, leb, lit≤}
use borrow.Author.Tests.{eqb-true, eq-eqb}
use Rattle.algebra.specs.Prime.{p}
use Rattle.algebra.specs.Field.{𝔾}
use Rattle.algebra.specs.Expr.{Expr, var, con, ◌⊕◌, ◌⊖◌, ◌⊗◌, eval}
use Rattle.algebra.proofs.Ring.{ring_laws, nat-add, nat-mul, mul-zero, zero-mul, zero-add, one-mul, mul_left_comm, mul_assoc, add_assoc, add-mul, add_left_comm, eq_of_sub, neg-of_add}
use Rattle.algebra.proofs.Field.{𝔾_is_ring, nat-mod, mod_of_nat, nat-neg}
use Rattle.residue.proofs.Field.{residues→𝔾}
use Rattle.table.specs.Cells.{Cell}
use Rattle.rulebook.proofs.Tests.{and_left, and_right, or_cases, by_cond, not_both, is_zero, is_zero_neg}
use Rattle.rulebook.proofs.Cells.{same_cell, same_cell_eq, number}

-- a product of cells, in order, and a sum of such products
abbrev pub Mono : Type 0
Mono = List Cell

abbrev pub Poly : Type 0
Poly = List (Mono × ℕ)

abbrev pub insert : Cell → Mono → Mono
insert c [] = c ∷ []
insert c (d ∷ m) = cond (leb (number c) (number d)) (c ∷ d ∷ m) (d ∷ insert c m)

abbrev pub join : Mono → Mono → Mono
join [] n = n
join (c ∷ m) n = insert c (join m n)

abbrev pub same_mono : Mono → Mono → Bool
same_mono [] [] = true
same_mono [] (d ∷ n) = false
same_mono (c ∷ m) [] = false
same_mono (c ∷ m) (d ∷ n) = same_cell c d && same_mono m n

-- a term goes in unless its coefficient is 0
abbrev pub keep : Mono → ℕ → Poly → Poly
keep m c q = cond (eqb c 0) q ((m, c) ∷ q)

abbrev pub add_term : Mono → ℕ → Poly → Poly
add_term m c [] = keep m c []
add_term m c (t ∷ q) = cond (same_mono m t.0) (keep t.0 ((N.◌+◌ c t.1) % p) q) (t ∷ add_term m c q)

abbrev pub plus : Poly → Poly → Poly
plus [] r = r
plus (t ∷ q) r = add_term t.0 t.1 (plus q r)

abbrev pub scale : Mono → ℕ → Poly → Poly
scale m c [] = []
scale m c (t ∷ q) = (join m t.0, (N.◌*◌ c t.1) % p) ∷ scale m c q

abbrev pub times : Poly → Poly → Poly
times [] r = []
times (t ∷ q) r = plus (scale t.0 t.1 r) (times q r)

abbrev pub negate : Poly → Poly
negate q = scale [] (N.◌-◌ p 1) q

abbrev pub constant : ℕ → Poly
constant n = keep [] (n % p) []

abbrev pub unknown : Cell → Poly
unknown c = ((c ∷ []), 1) ∷ []

-- what an expression comes to, where σ says what each cell comes to
abbrev pub poly : (Cell → Poly) → Expr Cell → Poly
poly σ (var c) = σ c
poly σ (con n) = constant n
poly σ (a ⊕ b) = plus (poly σ a) (poly σ b)
poly σ (a ⊖ b) = plus (poly σ a) (negate (poly σ b))
poly σ (a ⊗ b) = times (poly σ a) (poly σ b)

-- a number that a polynomial shares with its negative, in whatever order the terms stand
abbrev pub mark_mono : Mono → ℕ
mark_mono [] = 0
mark_mono (c ∷ m) = N.◌+◌ (number c) (mark_mono m)

abbrev pub mark : Poly → ℕ
mark [] = 0
mark (t ∷ q) = N.◌+◌ (mark_mono t.0) (mark q)

-- zero; a constant that is not zero; zero together: tests that may fail to see it
abbrev pub null : Poly → Bool
null [] = true
null (t ∷ q) = false

abbrev pub unit_mono : Mono → ℕ → Bool
unit_mono [] c = not (eqb (c % p) 0)
unit_mono (i ∷ m) c = false

abbrev pub unit : Poly → Bool
unit [] = false
unit (t ∷ []) = unit_mono t.0 t.1
unit (t ∷ u ∷ q) = false

abbrev pub alike : Poly → Poly → Bool
alike q r = null (plus q (negate r)) || null (plus q r)

pub same_mono_eq : (m n : Mono) → same_mono m n ≡ true → m ≡ n
same_mono_eq [] [] h = refl
same_mono_eq [] (d ∷ n) h = absurd (true≢false (sym h))
same_mono_eq (c ∷ m) [] h = absurd (true≢false (sym h))
same_mono_eq (c ∷ m) (d ∷ n) h =
    ap₂ {C = Mono} (λ s t. s ∷ t) (same_cell_eq c d (and_left _ _ h)) (same_mono_eq m n (and_right (same_cell c d) _ h))

nat-one : 𝔾.nat 1 ≡ 𝔾.one
nat-one = sym (residues→𝔾.on_nat 1) ∙ residues→𝔾.on_one

module _ (env : Cell → 𝔾.F) where
  open 𝔾 use {F, zero as 𝟘, one as 𝟙, nat, add as ◌+◌, neg as -◌, mul as ◌*◌}

  infixl 65 ◌+◌
  infixl 70 ◌*◌
  infix 75 -◌
  abbrev pub mono_value : Mono → F
  mono_value [] = 𝟙
  mono_value (c ∷ m) = env c * mono_value m

  abbrev pub poly_value : Poly → F
  poly_value [] = 𝟘
  poly_value (t ∷ q) = nat t.1 * mono_value t.0 + poly_value q

  insert_value : (c : Cell) (m : Mono) → mono_value (insert c m) ≡ env c * mono_value m
  insert_value c [] = refl
  insert_value c (d ∷ m) =
      by_cond (λ t. mono_value t ≡ env c * (env d * mono_value m)) (leb (number c) (number d)) (c ∷ d ∷ m) (d ∷ insert c m) (λ _. refl)
      (ap (λ t. env d * t) (insert_value c m) ∙ mul_left_comm 𝔾 𝔾_is_ring (env d) (env c) (mono_value m))

  join_value : (m n : Mono) → mono_value (join m n) ≡ mono_value m * mono_value n
  join_value [] n = sym (one-mul 𝔾 𝔾_is_ring (mono_value n))
  join_value (c ∷ m) n =
      insert_value c (join m n)
      ∙ ap (λ t. env c * t) (join_value m n)
      ∙ sym (mul_assoc 𝔾 𝔾_is_ring (env c) (mono_value m) (mono_value n))

  none_ident : (m q : F) → 𝟘 * m + q ≡ q
  none_ident m q = simp (ring_laws, 𝔾_is_ring)

  keep_value : (m : Mono) (c : ℕ) (q : Poly) → poly_value (keep m c q) ≡ nat c * mono_value m + poly_value q
  keep_value m c q =
      by_cond (λ t. poly_value t ≡ nat c * mono_value m + poly_value q) (eqb c 0) q ((m, c) ∷ q)
      (λ h.
      sym
      (ap (λ t. t * mono_value m + poly_value q) (ap nat (eqb-true c 0 h) ∙ 𝔾_is_ring.nat-zero)
      ∙ none_ident (mono_value m) (poly_value q)))
      refl

  add_ident : (c d m q : F) → (c + d) * m + q ≡ c * m + (d * m + q)
  add_ident c d m q = simp (ring_laws, 𝔾_is_ring)

  add_term_value : (m : Mono) (c : ℕ) (q : Poly) → poly_value (add_term m c q) ≡ nat c * mono_value m + poly_value q
  add_term_value m c [] = keep_value m c []
  add_term_value m c (t ∷ q) =
      let sum : ℕ = (N.◌+◌ c t.1) % p in
      by_cond (λ s. poly_value s ≡ nat c * mono_value m + (nat t.1 * mono_value t.0 + poly_value q)) (same_mono m t.0)
      (keep t.0 sum q)
      (t ∷ add_term m c q)
      (λ h.
      keep_value t.0 sum q
      ∙ ap (λ s. s * mono_value t.0 + poly_value q) (nat-mod (N.◌+◌ c t.1) ∙ nat-add 𝔾 𝔾_is_ring c t.1)
      ∙ add_ident (nat c) (nat t.1) (mono_value t.0) (poly_value q)
      ∙ ap (λ s. nat c * mono_value s + (nat t.1 * mono_value t.0 + poly_value q)) (sym (same_mono_eq m t.0 h)))
      (ap (λ s. nat t.1 * mono_value t.0 + s) (add_term_value m c q)
      ∙ add_left_comm 𝔾 𝔾_is_ring (nat t.1 * mono_value t.0) (nat c * mono_value m) (poly_value q))

  pub plus-value : (q r : Poly) → poly_value (plus q r) ≡ poly_value q + poly_value r
  plus-value [] r = sym (zero-add 𝔾 𝔾_is_ring (poly_value r))
  plus-value (t ∷ q) r =
      add_term_value t.0 t.1 (plus q r)
      ∙ ap (λ s. nat t.1 * mono_value t.0 + s) (plus-value q r)
      ∙ sym (add_assoc 𝔾 𝔾_is_ring (nat t.1 * mono_value t.0) (poly_value q) (poly_value r))

  scale_ident : (c d m n q : F) → c * d * (m * n) + c * m * q ≡ c * m * (d * n + q)
  scale_ident c d m n q = simp (ring_laws, 𝔾_is_ring)

  scale_value : (m : Mono) (c : ℕ) (q : Poly) → poly_value (scale m c q) ≡ nat c * mono_value m * poly_value q
  scale_value m c [] = sym (mul-zero 𝔾 𝔾_is_ring (nat c * mono_value m))
  scale_value m c (t ∷ q) =
      ap₂ ◌+◌ (ap₂ ◌*◌ (nat-mod (N.◌*◌ c t.1) ∙ nat-mul 𝔾 𝔾_is_ring c t.1) (join_value m t.0)) (scale_value m c q)
      ∙ scale_ident (nat c) (nat t.1) (mono_value m) (mono_value t.0) (poly_value q)

  times-value : (q r : Poly) → poly_value (times q r) ≡ poly_value q * poly_value r
  times-value [] r = sym (zero-mul 𝔾 𝔾_is_ring (poly_value r))
  times-value (t ∷ q) r =
      plus-value (scale t.0 t.1 r) (times q r)
      ∙ ap₂ ◌+◌ (scale_value t.0 t.1 r) (times-value q r)
      ∙ sym (add-mul 𝔾 𝔾_is_ring (nat t.1 * mono_value t.0) (poly_value q) (poly_value r))

  negate_ident : (q : F) → - 𝟙 * 𝟙 * q ≡ - q
  negate_ident q = simp (ring_laws, 𝔾_is_ring)

  pub negate_value : (q : Poly) → poly_value (negate q) ≡ - poly_value q
  negate_value q =
      scale_value [] (N.◌-◌ p 1) q
      ∙ ap (λ t. t * 𝟙 * poly_value q) (nat-neg 1 (lit≤ tt) ∙ ap -◌ nat-one)
      ∙ negate_ident (poly_value q)

  constant_ident : (c : F) → c * 𝟙 + 𝟘 ≡ c
  constant_ident c = simp (ring_laws, 𝔾_is_ring)

  pub constant_value : (n : ℕ) → poly_value (constant n) ≡ nat n
  constant_value n = keep_value [] (n % p) [] ∙ constant_ident (nat (n % p)) ∙ nat-mod n

  unknown_ident : (x : F) → 𝟙 * (x * 𝟙) + 𝟘 ≡ x
  unknown_ident x = simp (ring_laws, 𝔾_is_ring)

  -- each cell comes to what it holds
  abbrev pub Means : (Cell → Poly) → Type 0
  Means σ = (c : Cell) → poly_value (σ c) ≡ env c

  pub unknown_means : Means unknown
  unknown_means c = ap (λ t. t * (env c * 𝟙) + 𝟘) nat-one ∙ unknown_ident (env c)

  pub poly_is : (σ : Cell → Poly) → Means σ → (e : Expr Cell) → poly_value (poly σ e) ≡ eval 𝔾 env e
  unfolding eval
  poly_is σ s (var c) = s c
  poly_is σ s (con n) = constant_value n
  poly_is σ s (a ⊕ b) = plus-value (poly σ a) (poly σ b) ∙ ap₂ ◌+◌ (poly_is σ s a) (poly_is σ s b)
  poly_is σ s (a ⊖ b) =
      plus-value (poly σ a) (negate (poly σ b)) ∙ ap₂ ◌+◌ (poly_is σ s a) (negate_value (poly σ b) ∙ ap -◌ (poly_is σ s b))
  poly_is σ s (a ⊗ b) = times-value (poly σ a) (poly σ b) ∙ ap₂ ◌*◌ (poly_is σ s a) (poly_is σ s b)

  pub null_value : (q : Poly) → null q ≡ true → poly_value q ≡ 𝟘
  null_value [] h = refl
  null_value (t ∷ q) h = absurd (true≢false (sym h))

  unit_mono_value : (m : Mono) (c : ℕ) → unit_mono m c ≡ true → nat c * mono_value m + 𝟘 ≢ 𝟘
  unit_mono_value [] c h e =
      not_both (eqb (c % p) 0) h (eq-eqb (c % p) 0 (mod_of_nat c 0 (sym (constant_ident (nat c)) ∙ e ∙ sym 𝔾_is_ring.nat-zero)))
  unit_mono_value (i ∷ m) c h e = true≢false (sym h)

  pub unit_value : (q : Poly) → unit q ≡ true → poly_value q ≢ 𝟘
  unit_value [] h e = true≢false (sym h)
  unit_value (t ∷ []) h e = unit_mono_value t.0 t.1 h e
  unit_value (t ∷ u ∷ q) h e = true≢false (sym h)

  -- polynomials that are alike are zero together: they are equal, or each is the other's negative
  pub alike-value : (q r : Poly) → alike q r ≡ true → is_zero (poly_value q) ≡ is_zero (poly_value r)
  alike-value q r h =
      or_cases (null (plus q (negate r))) (null (plus q r)) h
      (λ t.
      ap is_zero
      (eq_of_sub 𝔾 𝔾_is_ring (poly_value q) (poly_value r)
      (ap (λ s. poly_value q + s) (sym (negate_value r)) ∙ sym (plus-value q (negate r)) ∙ null_value (plus q (negate r)) t)))
      (λ t.
      sym
      (ap is_zero (neg-of_add 𝔾 𝔾_is_ring (poly_value q) (poly_value r) (sym (plus-value q r) ∙ null_value (plus q r) t))
      ∙ is_zero_neg (poly_value q)))
