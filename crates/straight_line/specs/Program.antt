-- Straight-line programs: each word makes a new first element of a list, of two elements that stand in it.
use Rattle.std.specs.Prelude.{Bool, true, ◌&&◌, List, [], ◌∷◌, ℕ, zero, suc, ◌/◌, ◌%◌, ltb, get_or}
use Rattle.algebra.specs.Ring.{Ops, sub}
use Rattle.algebra.specs.Expr.{Expr, con, ◌⊕◌, ◌⊖◌, ◌⊗◌}

-- what words compute with: three operations, and what stands where the list has nothing
pub record Arithmetic : Type 1 where
  pub F : Type 0
  pub none : F
  pub plus : F → F → F
  pub minus : F → F → F
  pub times : F → F → F

-- on values over any operations
abbrev pub on_values : Ops → Arithmetic
on_values R = record { F = R.F; none = R.nat 0; plus = R.add; minus = sub R; times = R.mul }

-- on expressions
abbrev pub on_exprs : Type 0 → Arithmetic
on_exprs X = record { F = Expr X; none = con 0; plus = ◌⊕◌; minus = ◌⊖◌; times = ◌⊗◌ }

-- a word is operation · 2^22 + left · 2^11 + right: the operation (0 plus, 1 minus, 2 times), and how far from the front the operands stand
abbrev pub operation_of : ℕ → ℕ
operation_of w = w / 4194304

abbrev pub left_of : ℕ → ℕ
left_of w = w / 2048 % 2048

abbrev pub right_of : ℕ → ℕ
right_of w = w % 2048

module _ (A : Arithmetic) where
  abbrev pub apply : ℕ → A.F → A.F → A.F
  apply zero a b = A.plus a b
  apply (suc zero) a b = A.minus a b
  apply (suc (suc k)) a b = A.times a b

  abbrev pub step : ℕ → List A.F → A.F
  step w l = apply (operation_of w) (get_or l (left_of w) A.none) (get_or l (right_of w) A.none)

  -- the list after the last word
  unfoldable pub run : List ℕ → List A.F → List A.F
  run [] l = l
  run (w ∷ ws) l = run ws (step w l ∷ l)

-- every word is one of the three operations on elements that the list has, which has n at first and one more after each word
unfoldable pub fits : ℕ → List ℕ → Bool
fits n [] = true
fits n (w ∷ ws) = ltb (operation_of w) 3 && (ltb (left_of w) n && (ltb (right_of w) n && fits (suc n) ws))
