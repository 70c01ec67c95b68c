-- The lines of pairs, from the pairs' values.
use Rattle.std.specs.Prelude.{cond, List, [], ◌∷◌, ◌++◌, ℕ, suc, eqb}
use Rattle.tally.specs.Tally.{nonzeros, first_from}
use Rattle.answers.specs.declared.Spot.{Spot}
use Rattle.answers.specs.declared.Spot.TheVariants.{Clean, At}
use Rattle.stream_text.specs.Lines.{line_of}

-- the line of pair i, of which these are the values
abbrev pub line_of_pair : ℕ → List ℕ → List ℕ
line_of_pair i vs = line_of i (nonzeros vs) (first_from 1 vs)

-- what the line of a pair says
pub record Line : Type 0 where
  pub index : ℕ
  pub count : ℕ
  pub lowest : ℕ

-- the lines of pairs of which these are the values; the first of the list is pair i
unfoldable pub lines_from : ℕ → List (List ℕ) → List Line
lines_from i [] = []
lines_from i (vs ∷ pairs) = record { index = i; count = nonzeros vs; lowest = first_from 1 vs } ∷ lines_from (suc i) pairs

-- the text of lines, one behind the other
unfoldable pub text_of : List Line → List ℕ
text_of [] = []
text_of (l ∷ lines) = line_of l.index l.count l.lowest ++ text_of lines

-- of how many lines the count is not 0
unfoldable pub failing_lines : List Line → ℕ
failing_lines [] = 0
failing_lines (l ∷ lines) = cond (eqb l.count 0) (failing_lines lines) (suc (failing_lines lines))

-- the index and the lowest number of the first such line
unfoldable pub first_failing : List Line → Spot
first_failing [] = Clean
first_failing (l ∷ lines) = cond (eqb l.count 0) (first_failing lines) (At l.index l.lowest)
