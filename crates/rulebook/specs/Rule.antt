-- What a sentence of the rulebook says of a pair of rows.
use Rattle.std.specs.Prelude.{Bool, true, not, ◌&&◌, ◌||◌, List, [], ◌∷◌, ℕ, ◌%◌, eqb}
use Rattle.algebra.specs.Prime.{p}
use Rattle.algebra.specs.Expr.{Expr, eval}
use Rattle.residue.specs.Residues.{residues}
use Rattle.table.specs.Cells.{Cell}

-- a fact that is known already, an equation, and what is made of them
pub data Rule : Type 0 where
  fact : Bool → Rule
  ◌≐◌ : Expr Cell → Expr Cell → Rule
  deny : Rule → Rule
  ◌and◌ ◌or◌ ◌⇒◌ : Rule → Rule → Rule

infix 50 ◌≐◌
infixr 45 ◌and◌
infixr 40 ◌or◌
infixr 30 ◌⇒◌
-- "[t] is dropped on the last row, [f] holds on the first only; each covers the rest of its sentence."
pub data Sentence : Type 0 where
  always [t] [f] : Rule → Sentence

-- whether a rule holds, where each cell holds a number; "sums, products and equalities … are modulo p"
module _ (x : Cell → ℕ) where
  unfoldable pub holds : Rule → Bool
  holds (fact b) = b
  holds (a ≐ b) = eqb (eval residues x a % p) (eval residues x b % p)
  holds (deny r) = not (holds r)
  holds (r and s) = holds r && holds s
  holds (r or s) = holds r || holds s
  holds (r ⇒ s) = not (holds r) || holds s

  -- whether a row that is first, or last, keeps a sentence, and every one of several
  module _ (first last : Bool) where
    unfoldable pub keeps_sentence : Sentence → Bool
    keeps_sentence (always r) = holds r
    keeps_sentence ([t] r) = last || holds r
    keeps_sentence ([f] r) = not first || holds r

    unfoldable pub keeps_all : List Sentence → Bool
    keeps_all [] = true
    keeps_all (s ∷ ss) = keeps_sentence s && keeps_all ss
