-- Values against a rule, case by case: a plan says what is told apart, and in each case the check of Check.antt sees it.
use mathlib.Core.Path.{◌≡◌, sym, ap, ◌∙◌}
use mathlib.Core.Logic.{◌⊎◌, inl, inr, ◌≢◌}
use mathlib.Core.Bool.{Bool, true, cond, ◌&&◌}
use mathlib.Core.List.{List, [], ◌∷◌}
use Prim.Native.Nat.{ℕ, zero, suc, ◌+◌, ◌<◌, ◌≤◌}
use native.Mathlib.Nat.{eq-or-lt_of_le, le_of_suc-le-suc, not-suc-le-zero}
use lib.Dec.{eqb, leb, ltb}
use borrow.Author.Tests.{eqb-true, leb-true, ltb-true}
use Rattle.algebra.specs.Lists.{All, Mem}
use Rattle.algebra.specs.Field.{𝔾}
use Rattle.algebra.specs.Expr.{Expr, var, con, ◌⊖◌, eval}
use Rattle.algebra.proofs.Ring.{eq_of_sub}
use Rattle.algebra.proofs.Lists.{below}
use Rattle.algebra.proofs.Field.{𝔾_is_ring, 𝔾_is_domain}
use Rattle.table.specs.Cells.{Cell}
use Rattle.rulebook.specs.Rule.{Rule, holds}
use Rattle.rulebook.proofs.Tests.{and_left, and_right, by_cond, all}
use Rattle.rulebook.proofs.Cells.{line, place, cell, same_cell, same_cell_eq, cell_is}
use Rattle.rulebook.proofs.Poly.{Poly, poly, constant, poly_value, Means, poly_is, constant_value}
use Rattle.rulebook.proofs.Values.{env}
use Rattle.rulebook.proofs.Check.{check, check_is, zeros, NotZero}

-- what is told apart: a cell that is 0 or 1; which of the n cells of a line, from place a on, is 1, if any, the others 0; a cell that
-- is 0, 1 or neither; which of some cells a cell equals
pub data Split : Type 0 where
  flag : Cell → Split
  hot : ℕ → ℕ → ℕ → Split
  trit : Cell → Split
  one_of : Cell → List Cell → Split

abbrev pub put : Cell → Poly → (Cell → Poly) → Cell → Poly
put c q σ d = cond (same_cell d c) q (σ d)

abbrev pub chosen : ℕ → ℕ → ℕ
chosen i j = cond (eqb i j) 1 0

abbrev pub inside : ℕ → ℕ → ℕ → Cell → Bool
inside l a n c = eqb (line c) l && (leb a (place c) && ltb (place c) (a + n))

abbrev pub heat : ℕ → ℕ → ℕ → ℕ → (Cell → Poly) → Cell → Poly
heat l a n j σ c = cond (inside l a n c) (constant (chosen (place c) (a + j))) (σ c)

abbrev pub checks : List Split → (Cell → Poly) → List Poly → List (Expr Cell) → Rule → Bool
checks [] σ ns es r = check σ ns es r
checks (flag c ∷ ss) σ ns es r = checks ss (put c (constant 0) σ) ns es r && checks ss (put c (constant 1) σ) ns es r
checks (hot l a n ∷ ss) σ ns es r = all (λ j. checks ss (heat l a n j σ) ns es r) (below (suc n))
checks (trit c ∷ ss) σ ns es r =
    checks ss (put c (constant 0) σ) ns es r
    && (checks ss (put c (constant 1) σ) ns es r && checks ss σ (poly σ (var c) ∷ poly σ (var c ⊖ con 1) ∷ ns) es r)
checks (one_of c ds ∷ ss) σ ns es r = all (λ d. checks ss (put c (σ d) σ) ns es r) ds

pub all_below-at : (f : ℕ → Bool) (n i : ℕ) → i < n → all f (below n) ≡ true → f i ≡ true
all_below-at f zero i l t = absurd (not-suc-le-zero l)
all_below-at f (suc n) i l t =
    go (eq-or-lt_of_le (le_of_suc-le-suc l)) (λ u. all_below-at f n i u (and_right (f n) _ t))
  where
    go : (i ≡ n) ⊎ (i < n) → (i < n → f i ≡ true) → f i ≡ true
    go (inl e) k = ap f e ∙ and_left _ _ t
    go (inr u) k = k u

pub all_mem : {A : Type 0} (f : A → Bool) (xs : List A) (y : A) → Mem y xs → all f xs ≡ true → f y ≡ true
all_mem f [] y m t = absurd m
all_mem f (x ∷ xs) y (inl e) t = ap f e ∙ and_left _ _ t
all_mem f (x ∷ xs) y (inr m) t = all_mem f xs y m (and_right (f x) _ t)

module _ (x : Cell → ℕ) where
  -- the cells are as a split says
  abbrev pub Fits : Split → Type 0
  Fits (flag c) = (env x c ≡ 𝔾.nat 0) ⊎ (env x c ≡ 𝔾.nat 1)
  Fits (hot l a n) =
      (j : ℕ) × (j < suc n) × ((i : ℕ) → a ≤ i → i < a + n → env x (cell l i) ≡ 𝔾.nat (chosen i (a + j)))
  Fits (trit c) = Unit
  Fits (one_of c ds) = (d : Cell) × Mem d ds × (env x c ≡ env x d)

  pub put_means : (c : Cell) (q : Poly) (σ : Cell → Poly) → poly_value (env x) q ≡ env x c → Means (env x) σ
      → Means (env x) (put c q σ)
  put_means c q σ e m d =
      by_cond (λ t. poly_value (env x) t ≡ env x d) (same_cell d c) q (σ d) (λ h. e ∙ sym (ap (env x) (same_cell_eq d c h))) (m d)

  pub put-number : (c : Cell) (n : ℕ) (σ : Cell → Poly) → env x c ≡ 𝔾.nat n → Means (env x) σ
      → Means (env x) (put c (constant n) σ)
  put-number c n σ e = put_means c (constant n) σ (constant_value (env x) n ∙ sym e)

  pub heat_means : (l a n j : ℕ) (σ : Cell → Poly) → ((i : ℕ) → a ≤ i → i < a + n → env x (cell l i) ≡ 𝔾.nat (chosen i (a + j)))
      → Means (env x) σ → Means (env x) (heat l a n j σ)
  heat_means l a n j σ h m c =
      by_cond (λ t. poly_value (env x) t ≡ env x c) (inside l a n c) (constant (chosen (place c) (a + j))) (σ c)
      (λ t.
      let u : (leb a (place c) && ltb (place c) (a + n)) ≡ true = and_right (eqb (line c) l) _ t in
      constant_value (env x) (chosen (place c) (a + j))
      ∙ sym (h (place c) (leb-true _ _ (and_left _ _ u)) (ltb-true _ _ (and_right (leb a (place c)) _ u)))
      ∙ ap (λ k. env x (cell k (place c))) (sym (eqb-true (line c) l (and_left _ _ t)))
      ∙ ap (env x) (cell_is c))
      (m c)

  less_one : (c : Cell) (σ : Cell → Poly) → Means (env x) σ
      → poly_value (env x) (poly σ (var c ⊖ con 1)) ≡ 𝔾.zero → env x c ≡ 𝔾.nat 1
  unfolding eval
  less_one c σ m z = eq_of_sub 𝔾 𝔾_is_ring (env x c) (𝔾.nat 1) (sym (poly_is (env x) σ m (var c ⊖ con 1)) ∙ z)

  -- the values are zero exactly where the rule holds
  abbrev Seen : List (Expr Cell) → Rule → Type 0
  Seen es r = zeros x es ≡ holds x r

  pub checks_is : (ss : List Split) (σ : Cell → Poly) (ns : List Poly) (es : List (Expr Cell)) (r : Rule) → All Fits ss → Means (env x) σ
      → NotZero x ns → checks ss σ ns es r ≡ true → Seen es r
  checks_is [] σ ns es r fs m n h = check_is x σ ns m n es r h
  checks_is (flag c ∷ ss) σ ns es r fs m n h =
      go fs.0 (λ e. checks_is ss (put c (constant 0) σ) ns es r fs.1 (put-number c 0 σ e m) n (and_left _ _ h))
      (λ e.
      checks_is ss (put c (constant 1) σ) ns es r fs.1 (put-number c 1 σ e m) n
      (and_right (checks ss (put c (constant 0) σ) ns es r) _ h))
    where
      go : Fits (flag c) → (env x c ≡ 𝔾.nat 0 → Seen es r) → (env x c ≡ 𝔾.nat 1 → Seen es r) → Seen es r
      go (inl e) f g = f e
      go (inr e) f g = g e
  checks_is (hot l a k ∷ ss) σ ns es r fs m n h =
      let j : ℕ = fs.0.0 in
      checks_is ss (heat l a k j σ) ns es r fs.1 (heat_means l a k j σ fs.0.2 m) n
      (all_below-at (λ j. checks ss (heat l a k j σ) ns es r) (suc k) j fs.0.1 h)
  checks_is (trit c ∷ ss) σ ns es r fs m n h =
      let qs : List Poly = poly σ (var c) ∷ poly σ (var c ⊖ con 1) ∷ ns in
      let t : (checks ss (put c (constant 1) σ) ns es r && checks ss σ qs es r) ≡ true =
      and_right (checks ss (put c (constant 0) σ) ns es r) _ h in
      go (𝔾_is_domain.discrete (env x c) (𝔾.nat 0)) (𝔾_is_domain.discrete (env x c) (𝔾.nat 1))
      (λ e. checks_is ss (put c (constant 0) σ) ns es r fs.1 (put-number c 0 σ e m) n (and_left _ _ h))
      (λ e. checks_is ss (put c (constant 1) σ) ns es r fs.1 (put-number c 1 σ e m) n (and_left _ _ t))
      (λ d e.
      checks_is ss σ qs es r fs.1 m
      ((λ z. d (sym (m c) ∙ z ∙ sym 𝔾_is_ring.nat-zero)), ((λ z. e (less_one c σ m z)), n))
      (and_right (checks ss (put c (constant 1) σ) ns es r) _ t))
    where
      go : Dec (env x c ≡ 𝔾.nat 0) → Dec (env x c ≡ 𝔾.nat 1) → (env x c ≡ 𝔾.nat 0 → Seen es r) → (env x c ≡ 𝔾.nat 1 → Seen es r)
          → (env x c ≢ 𝔾.nat 0 → env x c ≢ 𝔾.nat 1 → Seen es r) → Seen es r
      go (yes e) d f g k = f e
      go (no e) (yes d) f g k = g d
      go (no e) (no d) f g k = k e d
  checks_is (one_of c ds ∷ ss) σ ns es r fs m n h =
      let d : Cell = fs.0.0 in
      checks_is ss (put c (σ d) σ) ns es r fs.1 (put_means c (σ d) σ (m d ∙ sym fs.0.2) m) n
      (all_mem (λ d. checks ss (put c (σ d) σ) ns es r) ds d fs.0.1 h)
