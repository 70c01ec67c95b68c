-- Values against a rule, by computation: a value is zero where one of its factors is, and a rule is a conjunction of disjunctions of
-- tests for zero. `check σ ns es r` sees that the values es are all zero exactly where r holds, if σ says what each cell comes to
-- and the polynomials ns are not zero.
use mathlib.Core.Path.{◌≡◌, refl, sym, ap, ap₂, ◌∙◌}
use mathlib.Core.Logic.{◌≢◌}
use mathlib.Core.Bool.{Bool, true, false, not, cond, ◌&&◌, ◌||◌, beq, not-not, and-true, or-true, or-false, or-and_distrib_left, or-and_distrib_right, true≢false}
use mathlib.Core.List.{List, [], ◌∷◌, ◌++◌, map}
use Prim.Native.Nat.{ℕ}
use lib.Dec.{eqb}
use Rattle.algebra.specs.Lists.{All}
use Rattle.algebra.specs.Field.{𝔾}
use Rattle.algebra.specs.Expr.{Expr, var, con, ◌⊕◌, ◌⊖◌, ◌⊗◌, eval}
use Rattle.algebra.proofs.Ring.{zero-add, add-zero}
use Rattle.algebra.proofs.Field.{𝔾_is_ring}
use Rattle.table.specs.Cells.{Cell}
use Rattle.rulebook.specs.Rule.{Rule, fact, ◌≐◌, deny, ◌and◌, ◌or◌, ◌⇒◌, holds}
use Rattle.rulebook.proofs.Tests.{bool_ext, and_left, and_right, or_left, or_right, or_cases, not_both, not_intro, by_cond, all, any, all_append, any_append, all_mono, is_zero, is_zero_eq, eq_is_zero, is_zero_mul, is_zero_sub}
use Rattle.rulebook.proofs.Poly.{Poly, poly, mark, null, unit, alike, poly_value, Means, poly_is, null_value, unit_value, alike-value}
use Rattle.rulebook.proofs.Values.{env, equation_is}

-- a polynomial is zero, or is not; with its mark, by which most others are told from it at once
abbrev pub Lit : Type 0
Lit = Bool × Poly × ℕ

abbrev pub lit : Bool → Poly → Lit
lit s q = (s, q, mark q)

abbrev pub Clause : Type 0
Clause = List Lit

abbrev pub sign : Bool → Bool → Bool
sign true b = b
sign false b = not b

abbrev pub never_zero : List Poly → Poly → Bool
never_zero ns q = unit q || any (alike q) ns

abbrev pub surely : List Poly → Bool → Poly → Bool
surely ns true q = null q
surely ns false q = never_zero ns q

abbrev pub atom : List Poly → Bool → Poly → List Clause
atom ns s q = cond (surely ns s q) [] (cond (surely ns (not s) q) ([] ∷ []) ((lit s q ∷ []) ∷ []))

abbrev pub cross : List Clause → List Clause → List Clause
cross [] ds = []
cross (c ∷ cs) ds = map (λ d. c ++ d) ds ++ cross cs ds

-- a value is zero where one of its factors is
abbrev pub factors : (Cell → Poly) → List Poly → Expr Cell → List Clause
factors σ ns (var c) = atom ns true (poly σ (var c))
factors σ ns (con n) = atom ns true (poly σ (con n))
factors σ ns (a ⊕ b) =
    cond (null (poly σ a)) (factors σ ns b) (cond (null (poly σ b)) (factors σ ns a) (atom ns true (poly σ (a ⊕ b))))
factors σ ns (a ⊖ b) = atom ns true (poly σ (a ⊖ b))
factors σ ns (a ⊗ b) = cross (factors σ ns a) (factors σ ns b)

abbrev pub all_factors : (Cell → Poly) → List Poly → List (Expr Cell) → List Clause
all_factors σ ns [] = []
all_factors σ ns (e ∷ es) = factors σ ns e ++ all_factors σ ns es

abbrev pub clauses : (Cell → Poly) → List Poly → Bool → Rule → List Clause
clauses σ ns true (fact b) = cond b [] ([] ∷ [])
clauses σ ns false (fact b) = cond b ([] ∷ []) []
clauses σ ns true (a ≐ b) = atom ns true (poly σ (a ⊖ b))
clauses σ ns false (a ≐ b) = atom ns false (poly σ (a ⊖ b))
clauses σ ns true (deny r) = clauses σ ns false r
clauses σ ns false (deny r) = clauses σ ns true r
clauses σ ns true (r and s) = clauses σ ns true r ++ clauses σ ns true s
clauses σ ns false (r and s) = cross (clauses σ ns false r) (clauses σ ns false s)
clauses σ ns true (r or s) = cross (clauses σ ns true r) (clauses σ ns true s)
clauses σ ns false (r or s) = clauses σ ns false r ++ clauses σ ns false s
clauses σ ns true (r ⇒ s) = cross (clauses σ ns false r) (clauses σ ns true s)
clauses σ ns false (r ⇒ s) = clauses σ ns true r ++ clauses σ ns false s

abbrev pub same_lit : Lit → Lit → Bool
same_lit l m = eqb l.2 m.2 && (beq l.0 m.0 && alike l.1 m.1)

-- a literal stands in a clause; every literal of d stands in c; c follows from one of ds: a rest waits until it is asked for
abbrev pub stands : Lit → Clause → Bool
stands l [] = false
stands l (m ∷ c) = elim (same_lit l m) [ true ↦ true | false ↦ stands l c ]

abbrev pub within : Clause → Clause → Bool
within c [] = true
within c (l ∷ d) = elim (stands l c) [ true ↦ within c d | false ↦ false ]

abbrev pub implied : List Clause → Clause → Bool
implied [] c = false
implied (d ∷ ds) c = elim (within c d) [ true ↦ true | false ↦ implied ds c ]

either {ℓ} : {A : Type ℓ} (b c : Bool) → (elim b [ true ↦ true | false ↦ c ]) ≡ true → (b ≡ true → A) → (c ≡ true → A) → A
either true c h f g = f refl
either false c h f g = g h

both : (b c : Bool) → (elim b [ true ↦ c | false ↦ false ]) ≡ true → (b ≡ true) × (c ≡ true)
both true c h = (refl, h)
both false c h = absurd (true≢false (sym h))

abbrev pub check : (Cell → Poly) → List Poly → List (Expr Cell) → Rule → Bool
check σ ns es r =
    let vs : List Clause = all_factors σ ns es in
    let ws : List Clause = clauses σ ns true r in
    all (implied ws) vs && all (implied vs) ws

not-and : (a b : Bool) → (not a || not b) ≡ not (a && b)
not-and true b = refl
not-and false b = refl

not-or : (a b : Bool) → (not a && not b) ≡ not (a || b)
not-or true b = refl
not-or false b = refl

module _ (x : Cell → ℕ) where
  abbrev pub value : Poly → 𝔾.F
  value q = poly_value (env x) q

  abbrev pub lit_value : Lit → Bool
  lit_value l = sign l.0 (is_zero (value l.1))

  abbrev pub clause_value : Clause → Bool
  clause_value c = any lit_value c

  abbrev pub clauses_value : List Clause → Bool
  clauses_value cs = all clause_value cs

  abbrev pub zeros : List (Expr Cell) → Bool
  zeros es = all (λ e. is_zero (eval 𝔾 (env x) e)) es

  cross_one : (c : Clause) (ds : List Clause) → clauses_value (map (λ d. c ++ d) ds) ≡ (clause_value c || clauses_value ds)
  cross_one c [] = sym (or-true (clause_value c))
  cross_one c (d ∷ ds) =
      ap₂ ◌&&◌ (any_append lit_value c d) (cross_one c ds)
      ∙ sym (or-and_distrib_left (clause_value c) (clause_value d) (clauses_value ds))

  cross_value : (cs ds : List Clause) → clauses_value (cross cs ds) ≡ (clauses_value cs || clauses_value ds)
  cross_value [] ds = refl
  cross_value (c ∷ cs) ds =
      all_append clause_value (map (λ d. c ++ d) ds) (cross cs ds)
      ∙ ap₂ ◌&&◌ (cross_one c ds) (cross_value cs ds)
      ∙ sym (or-and_distrib_right (clause_value c) (clauses_value cs) (clauses_value ds))

  -- none of the polynomials is zero
  abbrev pub NotZero : List Poly → Type 0
  NotZero ns = All (λ q. value q ≢ 𝔾.zero) ns

  module _ (σ : Cell → Poly) (ns : List Poly) (σ-is : Means (env x) σ) (ns-not : NotZero ns) where
    never : (q : Poly) → never_zero ns q ≡ true → is_zero (value q) ≡ true → ⊥
    never q h z = or_cases (unit q) (any (alike q) ns) h (λ t. unit_value (env x) q t (is_zero_eq _ z)) (go ns ns-not)
      where
        go : (rs : List Poly) → NotZero rs → any (alike q) rs ≡ true → ⊥
        go [] a t = true≢false (sym t)
        go (r ∷ rs) a t =
            or_cases (alike q r) (any (alike q) rs) t (λ u. a.0 (is_zero_eq _ (sym (alike-value (env x) q r u) ∙ z))) (go rs a.1)

    surely_value : (s : Bool) (q : Poly) → surely ns s q ≡ true → lit_value (lit s q) ≡ true
    surely_value true q h = eq_is_zero _ (null_value (env x) q h)
    surely_value false q h = not_intro _ (never q h)

    opposite : (s : Bool) (q : Poly) → surely ns (not s) q ≡ true → lit_value (lit s q) ≡ true → ⊥
    opposite true q h t = never q h t
    opposite false q h t = not_both _ t (surely_value true q h)

    atom_value : (s : Bool) (q : Poly) → clauses_value (atom ns s q) ≡ lit_value (lit s q)
    atom_value s q =
        by_cond (λ c. clauses_value c ≡ lit_value (lit s q)) (surely ns s q) [] _ (λ h. sym (surely_value s q h))
        (by_cond (λ c. clauses_value c ≡ lit_value (lit s q)) (surely ns (not s) q) ([] ∷ []) _
        (λ h. bool_ext false (lit_value (lit s q)) (λ t. absurd (true≢false (sym t))) (λ t. absurd (opposite s q h t)))
        (and-true (lit_value (lit s q) || false) ∙ or-false (lit_value (lit s q))))

    poly_zero : (e : Expr Cell) → is_zero (value (poly σ e)) ≡ is_zero (eval 𝔾 (env x) e)
    poly_zero e = ap is_zero (poly_is (env x) σ σ-is e)

    one_factor : (e : Expr Cell) → clauses_value (atom ns true (poly σ e)) ≡ is_zero (eval 𝔾 (env x) e)
    one_factor e = atom_value true (poly σ e) ∙ poly_zero e

    null_is : (e : Expr Cell) → null (poly σ e) ≡ true → eval 𝔾 (env x) e ≡ 𝔾.zero
    null_is e h = sym (poly_is (env x) σ σ-is e) ∙ null_value (env x) (poly σ e) h

    factors_value : (e : Expr Cell) → clauses_value (factors σ ns e) ≡ is_zero (eval 𝔾 (env x) e)
    unfolding eval
    factors_value (var c) = one_factor (var c)
    factors_value (con n) = one_factor (con n)
    factors_value (a ⊕ b) =
        by_cond (λ c. clauses_value c ≡ is_zero (eval 𝔾 (env x) (a ⊕ b))) (null (poly σ a)) (factors σ ns b) _
        (λ h. factors_value b ∙ ap is_zero (sym (ap (λ t. 𝔾.add t (eval 𝔾 (env x) b)) (null_is a h) ∙ zero-add 𝔾 𝔾_is_ring _)))
        (by_cond (λ c. clauses_value c ≡ is_zero (eval 𝔾 (env x) (a ⊕ b))) (null (poly σ b)) (factors σ ns a) _
        (λ h. factors_value a ∙ ap is_zero (sym (ap (λ t. 𝔾.add (eval 𝔾 (env x) a) t) (null_is b h) ∙ add-zero 𝔾 𝔾_is_ring _)))
        (one_factor (a ⊕ b)))
    factors_value (a ⊖ b) = one_factor (a ⊖ b)
    factors_value (a ⊗ b) =
        cross_value (factors σ ns a) (factors σ ns b)
        ∙ ap₂ ◌||◌ (factors_value a) (factors_value b)
        ∙ sym (is_zero_mul (eval 𝔾 (env x) a) (eval 𝔾 (env x) b))

    zeros-value : (es : List (Expr Cell)) → clauses_value (all_factors σ ns es) ≡ zeros es
    zeros-value [] = refl
    zeros-value (e ∷ es) =
        all_append clause_value (factors σ ns e) (all_factors σ ns es) ∙ ap₂ ◌&&◌ (factors_value e) (zeros-value es)

    equation : (a b : Expr Cell) → is_zero (value (poly σ (a ⊖ b))) ≡ holds x (a ≐ b)
    unfolding eval
    equation a b = poly_zero (a ⊖ b) ∙ is_zero_sub (eval 𝔾 (env x) a) (eval 𝔾 (env x) b) ∙ sym (equation_is x a b)

    clauses_is : (s : Bool) (r : Rule) → clauses_value (clauses σ ns s r) ≡ sign s (holds x r)
    unfolding holds
    clauses_is true (fact true) = refl
    clauses_is true (fact false) = refl
    clauses_is false (fact true) = refl
    clauses_is false (fact false) = refl
    clauses_is true (a ≐ b) = atom_value true (poly σ (a ⊖ b)) ∙ equation a b
    clauses_is false (a ≐ b) = atom_value false (poly σ (a ⊖ b)) ∙ ap not (equation a b)
    clauses_is true (deny r) = clauses_is false r
    clauses_is false (deny r) = clauses_is true r ∙ sym (not-not (holds x r))
    clauses_is true (r and s) =
        all_append clause_value (clauses σ ns true r) (clauses σ ns true s) ∙ ap₂ ◌&&◌ (clauses_is true r) (clauses_is true s)
    clauses_is false (r and s) =
        cross_value (clauses σ ns false r) (clauses σ ns false s)
        ∙ ap₂ ◌||◌ (clauses_is false r) (clauses_is false s)
        ∙ not-and (holds x r) (holds x s)
    clauses_is true (r or s) =
        cross_value (clauses σ ns true r) (clauses σ ns true s) ∙ ap₂ ◌||◌ (clauses_is true r) (clauses_is true s)
    clauses_is false (r or s) =
        all_append clause_value (clauses σ ns false r) (clauses σ ns false s)
        ∙ ap₂ ◌&&◌ (clauses_is false r) (clauses_is false s)
        ∙ not-or (holds x r) (holds x s)
    clauses_is true (r ⇒ s) =
        cross_value (clauses σ ns false r) (clauses σ ns true s) ∙ ap₂ ◌||◌ (clauses_is false r) (clauses_is true s)
    clauses_is false (r ⇒ s) =
        all_append clause_value (clauses σ ns true r) (clauses σ ns false s)
        ∙ ap₂ ◌&&◌ (clauses_is true r) (clauses_is false s)
        ∙ ap (λ t. t && not (holds x s)) (sym (not-not (holds x r)))
        ∙ not-or (not (holds x r)) (holds x s)

    same_sign : (s t : Bool) (q r : Poly) → (beq s t && alike q r) ≡ true → sign s (is_zero (value q)) ≡ sign t (is_zero (value r))
    same_sign true true q r h = alike-value (env x) q r h
    same_sign false false q r h = ap not (alike-value (env x) q r h)
    same_sign true false q r h = absurd (true≢false (sym h))
    same_sign false true q r h = absurd (true≢false (sym h))

    same_lit_value : (l m : Lit) → same_lit l m ≡ true → lit_value l ≡ true → lit_value m ≡ true
    same_lit_value l m h t = sym (same_sign l.0 m.0 l.1 m.1 (and_right (eqb l.2 m.2) _ h)) ∙ t

    among : (l : Lit) (c : Clause) → stands l c ≡ true → lit_value l ≡ true → clause_value c ≡ true
    among l [] h t = h
    among l (m ∷ c) h t =
        either (same_lit l m) (stands l c) h (λ u. or_left _ _ (same_lit_value l m u t))
        (λ u. or_right (lit_value m) _ (among l c u t))

    within-value : (c d : Clause) → within c d ≡ true → clause_value d ≡ true → clause_value c ≡ true
    within-value c [] h t = absurd (true≢false (sym t))
    within-value c (l ∷ d) h t =
        let hs : (stands l c ≡ true) × (within c d ≡ true) = both (stands l c) (within c d) h in
        or_cases (lit_value l) (clause_value d) t (among l c hs.0) (within-value c d hs.1)

    implied_value : (ds : List Clause) (c : Clause) → clauses_value ds ≡ true → implied ds c ≡ true → clause_value c ≡ true
    implied_value [] c t h = absurd (true≢false (sym h))
    implied_value (d ∷ ds) c t h =
        either (within c d) (implied ds c) h (λ u. within-value c d u (and_left _ _ t))
        (implied_value ds c (and_right (clause_value d) _ t))

    pub check_is : (es : List (Expr Cell)) (r : Rule) → check σ ns es r ≡ true → zeros es ≡ holds x r
    check_is es r h =
        let vs : List Clause = all_factors σ ns es in
        let ws : List Clause = clauses σ ns true r in
        sym (zeros-value es)
        ∙ bool_ext (clauses_value vs) (clauses_value ws)
        (λ t. all_mono (implied vs) clause_value (λ c. implied_value vs c t) ws (and_right (all (implied ws) vs) _ h))
        (λ t. all_mono (implied ws) clause_value (λ c. implied_value ws c t) vs (and_left _ _ h))
        ∙ clauses_is true r
