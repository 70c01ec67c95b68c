-- A program run on the values of expressions leaves the values of what it leaves when it is run on the expressions.
use mathlib.Core.Path.{◌≡◌, refl, sym, ap, ap₂, ◌∙◌}
use mathlib.Core.List.{List, [], ◌∷◌, map}
use Prim.Native.Nat.{ℕ, zero, suc}
use lib.ListN.{get_or, take, get_or-map}
use Rattle.algebra.specs.Ring.{Ops}
use Rattle.algebra.specs.Expr.{Expr, con, eval}
use Rattle.straight_line.specs.Program.{on_values, on_exprs, operation_of, left_of, right_of, apply, step, run}

map-take : {A B : Type 0} (f : A → B) (n : ℕ) (l : List A) → map f (take n l) ≡ take n (map f l)
map-take f zero l = refl
map-take f (suc n) [] = refl
map-take f (suc n) (x ∷ l) = ap (λ t. f x ∷ t) (map-take f n l)

module _ {X : Type 0} (R : Ops) (env : X → R.F) where
  apply-eval : (k : ℕ) (a b : Expr X)
      → eval R env (apply (on_exprs X) k a b) ≡ apply (on_values R) k (eval R env a) (eval R env b)
  unfolding eval
  apply-eval zero a b = refl
  apply-eval (suc zero) a b = refl
  apply-eval (suc (suc k)) a b = refl

  get_d_eval : (l : List (Expr X)) (i : ℕ) → eval R env (get_or l i (con 0)) ≡ get_or (map (eval R env) l) i (R.nat 0)
  unfolding eval
  get_d_eval l i = sym (get_or-map (eval R env) l i (con 0))

  step-eval : (w : ℕ) (l : List (Expr X)) → eval R env (step (on_exprs X) w l) ≡ step (on_values R) w (map (eval R env) l)
  step-eval w l =
      apply-eval (operation_of w) _ _
      ∙ ap₂ (apply (on_values R) (operation_of w)) (get_d_eval l (left_of w)) (get_d_eval l (right_of w))

  run-eval : (ws : List ℕ) (l : List (Expr X)) → map (eval R env) (run (on_exprs X) ws l) ≡ run (on_values R) ws (map (eval R env) l)
  unfolding run
  run-eval [] l = refl
  run-eval (w ∷ ws) l =
      run-eval ws (step (on_exprs X) w l ∷ l)
      ∙ ap (λ v. run (on_values R) ws (v ∷ map (eval R env) l)) (step-eval w l)

  -- the same of the first n elements
  pub first-eval : (n : ℕ) (ws : List ℕ) (l : List (Expr X))
      → map (eval R env) (take n (run (on_exprs X) ws l)) ≡ take n (run (on_values R) ws (map (eval R env) l))
  first-eval n ws l = map-take (eval R env) n (run (on_exprs X) ws l) ∙ ap (take n) (run-eval ws l)
