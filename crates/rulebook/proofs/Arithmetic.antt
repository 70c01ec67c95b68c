-- L: where OPCODE is one of the first five masks, and no two of them are equal, values and rules agree.
use mathlib.Core.Path.{◌≡◌, refl, sym, ap, ◌∙◌}
use mathlib.Core.Logic.{inl, inr, ◌≢◌}
use mathlib.Core.Bool.{Bool, true, ◌&&◌}
use mathlib.Core.List.{List, [], ◌∷◌, map}
use Prim.Native.Nat.{ℕ, zero, suc, ◌<◌}
use native.Mathlib.Omega.{arith}
use lib.Dec.{ltb}
use borrow.Author.Tests.{ltb-true}
use Rattle.algebra.specs.Prime.{p}
use Rattle.algebra.specs.Lists.{Mem, range}
use Rattle.algebra.specs.Field.{𝔾}
use Rattle.algebra.specs.Expr.{◌⊖◌, eval}
use Rattle.algebra.proofs.Ring.{eq_of_sub}
use Rattle.algebra.proofs.Field.{𝔾_is_ring, eq_of_nat}
use Rattle.table.specs.Cells.{Cell, mask_at, lv, mask}
use Rattle.table.specs.Columns.{NUM-OP-SELECTOR, COL-OPCODE as OPCODE}
use Rattle.table.specs.SimpleArithmaticOp.{simple_arithmatic_op}
use Rattle.rulebook.specs.Rule.{◌≐◌, holds, keeps_all}
use Rattle.rulebook.specs.Kind.{kind_of}
use Rattle.rulebook.specs.Words.{some}
use Rattle.rulebook.specs.Rulebook.{masks_of, rules_L}
use Rattle.rulebook.proofs.Tests.{and_left, and_right, all}
use Rattle.rulebook.proofs.Poly.{Means, unknown, unknown_means, poly_is, poly_value}
use Rattle.rulebook.proofs.Values.{env}
use Rattle.rulebook.proofs.Check.{NotZero}
use Rattle.rulebook.proofs.Sentences.{zero_entries, group_is}
use Rattle.rulebook.proofs.Plans
use Rattle.rulebook.proofs.Plans.{known}
use Rattle.rulebook.proofs.Counts.{equal, some_is}
use Rattle.rulebook.proofs.Facts.{Facts, known_means}
use Rattle.rulebook.proofs.Groups.{by_plan_at}

mem_map : {A B : Type 0} (f : A → B) (y : A) (ys : List A) → Mem y ys → Mem (f y) (map f ys)
mem_map f y [] m = absurd m
mem_map f y (z ∷ ys) (inl e) = inl (ap f e)
mem_map f y (z ∷ ys) (inr m) = inr (mem_map f y ys m)

-- no two of the first five masks are equal
abbrev pub Differ : (Cell → ℕ) → Type 0
Differ x = (i j : ℕ) → i < j → j < 5 → x (mask_at i) ≢ x (mask_at j)

module _ (x : Cell → ℕ) (canon : (c : Cell) → x c < p) (F : Facts x) (first last : Bool) (differ : Differ x) where
  difference : (q : ℕ × ℕ) → (ltb q.0 q.1 && ltb q.1 5) ≡ true → poly_value (env x) (Plans.mask_difference q) ≢ 𝔾.zero
  unfolding eval
  difference q h e =
      differ q.0 q.1 (ltb-true _ _ (and_left _ _ h)) (ltb-true _ 5 (and_right (ltb q.0 q.1) _ h))
      (eq_of_nat _ _ (canon (mask_at q.0)) (canon (mask_at q.1))
      (eq_of_sub 𝔾 𝔾_is_ring _ _ (sym (poly_is (env x) unknown (unknown_means (env x)) (mask q.0 ⊖ mask q.1)) ∙ e)))

  differences : (qs : List (ℕ × ℕ)) → all (λ q. ltb q.0 q.1 && ltb q.1 5) qs ≡ true → NotZero x (map Plans.mask_difference qs)
  differences [] h = tt
  differences (q ∷ qs) h = (difference q (and_left _ _ h), differences qs (and_right (ltb q.0 q.1 && ltb q.1 5) _ h))

  agree_L_at : (k : ℕ) → k < NUM-OP-SELECTOR → Means (env x) (known k) → holds x (some (masks_of k) (λ j. lv OPCODE ≐ mask j)) ≡ true
      → zero_entries x first last simple_arithmatic_op ≡ keeps_all x first last (rules_L x k)
  unfolding eval
  agree_L_at zero l m o =
      let j : (j : ℕ) × Mem j (range 0 5) × (holds x (lv OPCODE ≐ mask j) ≡ true) = some_is x (range 0 5) (λ j. lv OPCODE ≐ mask j) o in
      group_is x first last Plans.given_L ((mask_at j.0, mem_map mask_at j.0 (range 0 5) j.1, equal x (lv OPCODE) (mask j.0) j.2), tt)
      (map Plans.mask_difference Plans.pairs)
      (differences Plans.pairs refl)
      (known 0)
      unknown
      m
      (unknown_means (env x))
      simple_arithmatic_op
      (rules_L x 0)
      (Plans.plan_L (0 ∷ []))
      (Plans.group_L_arithmetic x)
  agree_L_at (suc k) l m o = by_plan_at x first last (Plans.group_L_other x) k (omega arith) tt m

  pub agree_L : holds x (some (masks_of (kind_of x)) (λ j. lv OPCODE ≐ mask j)) ≡ true
      → zero_entries x first last simple_arithmatic_op ≡ keeps_all x first last (rules_L x (kind_of x))
  agree_L = agree_L_at (kind_of x) F.kind-lt (known_means x canon F)
