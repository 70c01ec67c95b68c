-- A homomorphism takes values to values and folds to folds; a renamed expression has the value over the renamed variables.
use mathlib.Core.Path.{◌≡◌, refl, ap, ap₂, ◌∙◌}
use mathlib.Core.List.{List, [], ◌∷◌, map}
use Rattle.algebra.specs.Ring.{Ops, Hom}
use Rattle.algebra.specs.Expr.{Expr, var, con, ◌⊕◌, ◌⊖◌, ◌⊗◌, eval, rename}
use Rattle.algebra.specs.Fold.{fold}

module _ {X : Type 0} (R S : Ops) (H : Hom R S) (env : X → R.F) where
  pub eval_hom : (e : Expr X) → H.on (eval R env e) ≡ eval S (λ x. H.on (env x)) e
  unfolding eval
  eval_hom (var x) = refl
  eval_hom (con n) = H.on_nat n
  eval_hom (a ⊕ b) = H.on_add _ _ ∙ ap₂ S.add (eval_hom a) (eval_hom b)
  eval_hom (a ⊖ b) = H.on_add _ _ ∙ ap₂ S.add (eval_hom a) (H.on_neg _ ∙ ap S.neg (eval_hom b))
  eval_hom (a ⊗ b) = H.on_mul _ _ ∙ ap₂ S.mul (eval_hom a) (eval_hom b)

module _ (R S : Ops) (H : Hom R S) (α : R.F) where
  pub fold_hom : (a : R.F) (cs : List R.F) → H.on (fold R α a cs) ≡ fold S (H.on α) (H.on a) (map H.on cs)
  unfolding fold
  fold_hom a [] = refl
  fold_hom a (c ∷ cs) =
      fold_hom (R.add (R.mul a α) c) cs
      ∙ ap (λ t. fold S (H.on α) t (map H.on cs)) (H.on_add _ _ ∙ ap (λ t. S.add t (H.on c)) (H.on_mul a α))

module _ {X Y : Type 0} (R : Ops) (f : X → Y) (env : Y → R.F) where
  pub eval-rename : (e : Expr X) → eval R env (rename f e) ≡ eval R (λ x. env (f x)) e
  unfolding eval rename
  eval-rename (var x) = refl
  eval-rename (con n) = refl
  eval-rename (a ⊕ b) = ap₂ R.add (eval-rename a) (eval-rename b)
  eval-rename (a ⊖ b) = ap₂ (λ s t. R.add s (R.neg t)) (eval-rename a) (eval-rename b)
  eval-rename (a ⊗ b) = ap₂ R.mul (eval-rename a) (eval-rename b)
