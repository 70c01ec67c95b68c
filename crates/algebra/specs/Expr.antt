-- Expressions of the ring operations over variables of any type X, and their values over any operations.
use Rattle.std.specs.Prelude.{ℕ}
use Rattle.algebra.specs.Ring.{Ops, sub}

pub data Expr (X : Type 0) : Type 0 where
  var : X → Expr X
  con : ℕ → Expr X
  ◌⊕◌ ◌⊖◌ ◌⊗◌ : Expr X → Expr X → Expr X

infixl 65 ◌⊕◌ ◌⊖◌
infixl 70 ◌⊗◌
module _ {X : Type 0} (R : Ops) (env : X → R.F) where
  -- the value where each variable x is `env x`
  unfoldable pub eval : Expr X → R.F
  eval (var x) = env x
  eval (con n) = R.nat n
  eval (a ⊕ b) = R.add (eval a) (eval b)
  eval (a ⊖ b) = sub R (eval a) (eval b)
  eval (a ⊗ b) = R.mul (eval a) (eval b)

-- the same expression over other variables
unfoldable pub rename : {X Y : Type 0} → (X → Y) → Expr X → Expr Y
rename f (var x) = var (f x)
rename f (con n) = con n
rename f (a ⊕ b) = rename f a ⊕ rename f b
rename f (a ⊖ b) = rename f a ⊖ rename f b
rename f (a ⊗ b) = rename f a ⊗ rename f b
