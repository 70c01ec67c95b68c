-- What a call over one row tells of a pair of rows.
use Prim.Native.Nat.{ℕ}
use mathlib.Core.Path.{◌≡◌, refl, sym, ap, ap₂, ◌∙◌}
use mathlib.Core.Bool.{Bool, true, false, not, ◌&&◌, ◌||◌, true≢false}
use mathlib.Core.List.{List, []}
use lib.Dec.{T, eqb}
use Prim.Native.Nat.{◌%◌}
use Rattle.algebra.specs.Prime.{p}
use Rattle.algebra.specs.Expr.{Expr, var, con, ◌⊕◌, ◌⊖◌, ◌⊗◌, eval}
use Rattle.residue.specs.Residues.{residues, add_p, neg_p, mul_p}
use Rattle.table.specs.Cells.{Cell, local, next, mask_at, z_last, lagrange_basis_first, cells}
use Rattle.rulebook.specs.Rule.{Rule, fact, ◌≐◌, deny, ◌and◌, ◌or◌, ◌⇒◌, holds}
use Rattle.rulebook.proofs.Tests.{and_left, and_right, true_of}

-- what reads the current row alone
abbrev pub of_current : Expr Cell → Bool
of_current (var (local c)) = true
of_current (var (next c)) = false
of_current (var (mask_at i)) = false
of_current (var z_last) = false
of_current (var lagrange_basis_first) = false
of_current (con n) = true
of_current (a ⊕ b) = of_current a && of_current b
of_current (a ⊖ b) = of_current a && of_current b
of_current (a ⊗ b) = of_current a && of_current b

abbrev pub current_rule : Rule → Bool
current_rule (fact b) = true
current_rule (a ≐ b) = of_current a && of_current b
current_rule (deny r) = current_rule r
current_rule (r and s) = current_rule r && current_rule s
current_rule (r or s) = current_rule r && current_rule s
current_rule (r ⇒ s) = current_rule r && current_rule s

-- the same of the next row
abbrev pub of_next : Expr Cell → Expr Cell
of_next (var (local c)) = var (next c)
of_next (var (next c)) = con 0
of_next (var (mask_at i)) = con 0
of_next (var z_last) = con 0
of_next (var lagrange_basis_first) = con 0
of_next (con n) = con n
of_next (a ⊕ b) = of_next a ⊕ of_next b
of_next (a ⊖ b) = of_next a ⊖ of_next b
of_next (a ⊗ b) = of_next a ⊗ of_next b

abbrev pub next_rule : Rule → Rule
next_rule (fact b) = fact b
next_rule (a ≐ b) = of_next a ≐ of_next b
next_rule (deny r) = deny (next_rule r)
next_rule (r and s) = next_rule r and next_rule s
next_rule (r or s) = next_rule r or next_rule s
next_rule (r ⇒ s) = next_rule r ⇒ next_rule s

module _ (m l n : List ℕ) (z f : ℕ) where
  current-value : (e : Expr Cell) → of_current e ≡ true → eval residues (cells m l n z f) e ≡ eval residues (cells [] l [] 0 0) e
  unfolding eval
  current-value (var (local c)) h = refl
  current-value (var (next c)) h = absurd (true≢false (sym h))
  current-value (var (mask_at i)) h = absurd (true≢false (sym h))
  current-value (var z_last) h = absurd (true≢false (sym h))
  current-value (var lagrange_basis_first) h = absurd (true≢false (sym h))
  current-value (con k) h = refl
  current-value (a ⊕ b) h = ap₂ add_p (current-value a (and_left _ _ h)) (current-value b (and_right (of_current a) _ h))
  current-value (a ⊖ b) h = ap₂ (λ (s t : ℕ). add_p s (neg_p t)) (current-value a (and_left _ _ h)) (current-value b (and_right (of_current a) _ h))
  current-value (a ⊗ b) h = ap₂ mul_p (current-value a (and_left _ _ h)) (current-value b (and_right (of_current a) _ h))

  current-holds : (r : Rule) → current_rule r ≡ true → holds (cells m l n z f) r ≡ holds (cells [] l [] 0 0) r
  unfolding holds
  current-holds (fact b) h = refl
  current-holds (a ≐ b) h =
      ap₂ (λ (s t : ℕ). eqb (s % p) (t % p)) (current-value a (and_left _ _ h)) (current-value b (and_right (of_current a) _ h))
  current-holds (deny r) h = ap not (current-holds r h)
  current-holds (r and s) h = ap₂ ◌&&◌ (current-holds r (and_left _ _ h)) (current-holds s (and_right (current_rule r) _ h))
  current-holds (r or s) h = ap₂ ◌||◌ (current-holds r (and_left _ _ h)) (current-holds s (and_right (current_rule r) _ h))
  current-holds (r ⇒ s) h =
      ap₂ (λ (i j : Bool). not i || j) (current-holds r (and_left _ _ h)) (current-holds s (and_right (current_rule r) _ h))

  next-value : (e : Expr Cell) → eval residues (cells m l n z f) (of_next e) ≡ eval residues (cells [] n [] 0 0) e
  unfolding eval
  next-value (var (local c)) = refl
  next-value (var (next c)) = refl
  next-value (var (mask_at i)) = refl
  next-value (var z_last) = refl
  next-value (var lagrange_basis_first) = refl
  next-value (con k) = refl
  next-value (a ⊕ b) = ap₂ add_p (next-value a) (next-value b)
  next-value (a ⊖ b) = ap₂ (λ (s t : ℕ). add_p s (neg_p t)) (next-value a) (next-value b)
  next-value (a ⊗ b) = ap₂ mul_p (next-value a) (next-value b)

  next-holds : (r : Rule) → holds (cells m l n z f) (next_rule r) ≡ holds (cells [] n [] 0 0) r
  unfolding holds
  next-holds (fact b) = refl
  next-holds (a ≐ b) = ap₂ (λ (s t : ℕ). eqb (s % p) (t % p)) (next-value a) (next-value b)
  next-holds (deny r) = ap not (next-holds r)
  next-holds (r and s) = ap₂ ◌&&◌ (next-holds r) (next-holds s)
  next-holds (r or s) = ap₂ ◌||◌ (next-holds r) (next-holds s)
  next-holds (r ⇒ s) = ap₂ (λ (i j : Bool). not i || j) (next-holds r) (next-holds s)

  pub current_told : (r : Rule) {a : Bool} → a ≡ holds (cells [] l [] 0 0) r → T (current_rule r) → holds (cells m l n z f) r ≡ a
  current_told r h t = current-holds r (true_of _ t) ∙ sym h

  pub next_told : (r s : Rule) {a : Bool} → a ≡ holds (cells [] n [] 0 0) s → r ≡ next_rule s → holds (cells m l n z f) r ≡ a
  next_told r s h e = ap (holds (cells m l n z f)) e ∙ next-holds s ∙ sym h

-- what calls over a row tell
pub ruleset tells = (current_told, next_told)
