-- The values that code computes, each with its weight applied, are 0 exactly where the entries are zero in the field for a row that is
-- first and last as the weights tell.
use mathlib.Core.Path.{◌≡◌, refl, sym, ap, ap₂, ◌∙◌}
use mathlib.Core.Bool.{Bool, true, ◌&&◌, ◌||◌, not-not, or_comm}
use mathlib.Core.List.{List, [], ◌∷◌}
use Prim.Native.Nat.{ℕ, ◌<◌}
use native.Mathlib.Nat.{mod-eq_of_lt}
use lib.Dec.{eqb, ltb}
use borrow.Author.Tests.{ltb-true, eqb-true, eq-eqb}
use Rattle.algebra.specs.Prime.{p}
use Rattle.algebra.specs.Lists.{All}
use Rattle.algebra.specs.Field.{𝔾}
use Rattle.algebra.specs.Expr.{Expr, var, con, ◌⊕◌, ◌⊖◌, ◌⊗◌, eval}
use Rattle.algebra.proofs.Field.{val-nat}
use Rattle.residue.specs.Residues.{residues}
use Rattle.residue.proofs.Laws.{add_p-lt, mul_p-lt}
use Rattle.table.specs.Cells.{Cell, z_last, lagrange_basis_first}
use Rattle.table.specs.Entry.{Kind, plain, transition, first, Entry, weighted_by, values}
use Rattle.rulebook.specs.Plain.{is_first, is_last}
use Rattle.rulebook.proofs.Tests.{and_left, and_right, and_intro, all, is_zero, is_zero_mul}
use Rattle.rulebook.proofs.Cells.{line}
use Rattle.rulebook.proofs.Values.{env, remainder_is}
use Rattle.rulebook.proofs.Sentences.{weight, dropped, zero_entry, zero_entries}

-- an expression that reads rows and masks only; one whose value is canonical where every cell is
abbrev pub reads_rows : Expr Cell → Bool
reads_rows (var c) = ltb (line c) 3
reads_rows (con n) = true
reads_rows (a ⊕ b) = reads_rows a && reads_rows b
reads_rows (a ⊖ b) = reads_rows a && reads_rows b
reads_rows (a ⊗ b) = reads_rows a && reads_rows b

abbrev pub reduced : Expr Cell → Bool
reduced (var c) = true
reduced (con n) = ltb n p
reduced (a ⊕ b) = true
reduced (a ⊖ b) = true
reduced (a ⊗ b) = true

abbrev pub fair : Entry → Bool
fair v = reads_rows v.expr && reduced (weighted_by v.kind v.expr)

-- y has the weights, and x the same rows and masks
module _ (x y : Cell → ℕ) (same : (c : Cell) → ltb (line c) 3 ≡ true → x c ≡ y c) (canon : (c : Cell) → y c < p) where
  eval-rows : (e : Expr Cell) → reads_rows e ≡ true → eval 𝔾 (env x) e ≡ eval 𝔾 (env y) e
  unfolding eval
  eval-rows (var c) h = ap 𝔾.nat (same c h)
  eval-rows (con n) h = refl
  eval-rows (a ⊕ b) h = ap₂ 𝔾.add (eval-rows a (and_left _ _ h)) (eval-rows b (and_right (reads_rows a) _ h))
  eval-rows (a ⊖ b) h = ap₂ (λ s t. 𝔾.add s (𝔾.neg t)) (eval-rows a (and_left _ _ h)) (eval-rows b (and_right (reads_rows a) _ h))
  eval-rows (a ⊗ b) h = ap₂ 𝔾.mul (eval-rows a (and_left _ _ h)) (eval-rows b (and_right (reads_rows a) _ h))

  pub value-lt : (e : Expr Cell) → reduced e ≡ true → eval residues y e < p
  unfolding eval
  value-lt (var c) h = canon c
  value-lt (con n) h = ltb-true n p h
  value-lt (a ⊕ b) h = add_p-lt _ _
  value-lt (a ⊖ b) h = add_p-lt _ _
  value-lt (a ⊗ b) h = mul_p-lt _ _

  weighted_by_lem : (c : Cell) (a : 𝔾.F) → is_zero (𝔾.mul a (env y c)) ≡ (eqb (y c) 0 || is_zero a)
  weighted_by_lem c a =
      is_zero_mul a (env y c)
      ∙ or_comm (is_zero a) (is_zero (env y c))
      ∙ ap (λ t. eqb t 0 || is_zero a) (val-nat (y c) ∙ mod-eq_of_lt (canon c))

  abbrev is-first : Bool
  is-first = is_first (y lagrange_basis_first)

  abbrev is-last : Bool
  is-last = is_last (y z_last)

  weighted-is : (k : Kind) (e : Expr Cell)
      → is_zero (eval 𝔾 (env y) (weighted_by k e)) ≡ (dropped x is-first is-last (weight k) || is_zero (eval 𝔾 (env y) e))
  unfolding eval
  weighted-is plain e = refl
  weighted-is transition e = weighted_by_lem z_last (eval 𝔾 (env y) e)
  weighted-is first e =
      weighted_by_lem lagrange_basis_first (eval 𝔾 (env y) e)
      ∙ ap (λ t. t || is_zero (eval 𝔾 (env y) e)) (sym (not-not (eqb (y lagrange_basis_first) 0)))

  entry_is : (v : Entry) → fair v ≡ true → eqb (eval residues y (weighted_by v.kind v.expr)) 0 ≡ zero_entry x is-first is-last v
  entry_is v h =
      let e : Expr Cell = weighted_by v.kind v.expr in
      ap (λ t. eqb t 0) (sym (mod-eq_of_lt (value-lt e (and_right (reads_rows v.expr) _ h))) ∙ remainder_is y e)
      ∙ weighted-is v.kind v.expr
      ∙ ap (λ t. dropped x is-first is-last (weight v.kind) || is_zero t) (sym (eval-rows v.expr (and_left _ _ h)))

  pub values-zero : (vs : List Entry) → all fair vs ≡ true → zero_entries x is-first is-last vs ≡ true
      → All (λ v. v ≡ 0) (values residues y vs)
  unfolding values
  values-zero [] h t = tt
  values-zero (v ∷ vs) h t = (
    eqb-true _ 0 (entry_is v (and_left _ _ h) ∙ and_left _ _ t),
    values-zero vs (and_right (fair v) _ h) (and_right (zero_entry x is-first is-last v) _ t),
  )

  pub zero-values : (vs : List Entry) → all fair vs ≡ true → All (λ v. v ≡ 0) (values residues y vs)
      → zero_entries x is-first is-last vs ≡ true
  unfolding values
  zero-values [] h t = refl
  zero-values (v ∷ vs) h t =
      and_intro _ _ (sym (entry_is v (and_left _ _ h)) ∙ eq-eqb _ 0 t.0) (zero-values vs (and_right (fair v) _ h) t.1)
