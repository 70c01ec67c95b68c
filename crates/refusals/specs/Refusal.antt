-- "Where a call is turned back" (document 01): one definition for each line of the table.
use Rattle.std.specs.Prelude.{Bool, true, false, cond, not, ◌&&◌, ◌||◌, List, [], ◌∷◌, ◌++◌, ℕ, codes, zero, suc, ◌+◌, ◌-◌, ◌/◌, ◌%◌, length, get_or, take, ℤ, nat_abs, eqb, ltb, Result, Ok, Err}
use Rattle.std.specs.Fmt.{decimal}
use Rattle.algebra.specs.Prime.{p}
use Rattle.refusals.specs.declared.Refusal.{Refusal}
use Rattle.refusals.specs.declared.Refusal.TheVariants.{RowLength, MaskCount, ValueBuffer, AlphaCount, MaskContents, RowContents, NotBelowP, FlagsNotPlain, FoldCount}

-- a number, and whether its condition holds
pub record Condition : Type 0 where
  pub number : ℕ
  pub holds : Bool

-- "The lowest number wins, and only these conditions refuse.": of conditions in rising order, the number of the first
-- that holds, and 0 where none does
abbrev pub lowest : List Condition → ℕ
lowest [] = 0
lowest (c ∷ cs) = cond c.holds c.number (lowest cs)

-- what a call answers: what is made of the number with which it is turned back, and where none is (0) the answer
abbrev pub unless : {A : Type 0} → ℕ → (ℕ → A) → A → A
unless zero refused answer = answer
unless (suc n) refused answer = refused (suc n)

-- every number is canonical
unfoldable pub canonical : List ℕ → Bool
canonical [] = true
canonical (x ∷ xs) = ltb x p && canonical xs

-- x is among the numbers
abbrev pub member : ℕ → List ℕ → Bool
member x [] = false
member x (y ∷ ys) = eqb x y || member x ys

-- no two numbers are equal
unfoldable pub distinct : List ℕ → Bool
distinct [] = true
distinct (x ∷ xs) = not (member x xs) && distinct xs

-- "rows | 1 | a row not 94 values"
abbrev pub row_length : List ℕ → Condition
row_length row = record { number = 1; holds = not (eqb (length row) 94) }

-- "rows | 1 | .. a run not 1 to 65,536 whole rows"
abbrev pub run_length : List ℕ → Condition
run_length run =
    record { number = 1; holds = not (eqb (length run % 94) 0) || eqb (length run) 0 || ltb 65536 (length run / 94) }

-- "masks | 2 | not 25 values"
abbrev pub mask_count : List ℕ → Condition
mask_count masks = record { number = 2; holds = not (eqb (length masks) 25) }

-- "value buffer | 3 | under 226 values (only the first 226 are written)"
abbrev pub value_buffer : ℕ → Condition
value_buffer room = record { number = 3; holds = ltb room 226 }

-- "alphas | 4 | not 1 to 8, or accumulators differ in count": so many alphas, so many accumulators
abbrev pub alpha_count : ℕ → ℕ → Condition
alpha_count alphas accs = record { number = 4; holds = eqb alphas 0 || ltb 8 alphas || not (eqb accs alphas) }

-- "masks | 5 | one not below p, or two of the first five equal"
abbrev pub mask_contents : List ℕ → Condition
mask_contents masks = record { number = 5; holds = not (canonical masks) || not (distinct (take 5 masks)) }

-- "row contents | 6 | one not below p"
abbrev pub row_contents : List ℕ → Condition
row_contents row = record { number = 6; holds = not (canonical row) }

-- "weights, alphas, accumulators, a lone operand or folded value | 7 | one not below p"
abbrev pub not_below_p : List ℕ → Condition
not_below_p xs = record { number = 7; holds = not (canonical xs) }

-- "Signed and residue form map to each other without loss over that whole range. .. A signed number outside the range
-- is refused with 7." (document 02, 1/12): the range ends at 9223372034707292160, half of p - 1, and at its negative
abbrev pub greatest : ℕ
greatest = 9223372034707292160

abbrev pub not_in_range : ℤ → Condition
not_in_range z = record { number = 7; holds = ltb greatest (nat_abs z) }

-- "judge | 8 | flags not plain": whether they are plain
abbrev pub flags_not_plain : Bool → Condition
flags_not_plain plain = record { number = 8; holds = not plain }

-- "It refuses with 9 a fold that would pass a count of 4,294,967,295, checked after all others, with the record
-- unaltered." (document 02, 2/12): of so many values folded before, and so many more
abbrev pub most_folded : ℕ
most_folded = 4294967295

abbrev pub fold_count : ℕ → ℕ → Condition
fold_count folded more = record { number = 9; holds = ltb most_folded (folded + more) }

-- the conditions on the lengths of the masks and of a pair of rows, and on their contents
abbrev pub sizes : List ℕ → List ℕ → List ℕ → List Condition
sizes masks lv nv = row_length lv ∷ row_length nv ∷ mask_count masks ∷ []

abbrev pub contents : List ℕ → List ℕ → List ℕ → List Condition
contents masks lv nv = mask_contents masks ∷ row_contents lv ∷ row_contents nv ∷ []

-- the number of a line, which a call that is turned back by it answers
abbrev pub number : Refusal → ℕ
number RowLength = 1
number MaskCount = 2
number ValueBuffer = 3
number AlphaCount = 4
number MaskContents = 5
number RowContents = 6
number NotBelowP = 7
number FlagsNotPlain = 8
number FoldCount = 9

-- what a line prints
abbrev pub text : Refusal → List ℕ
text r = codes "refused " ++ decimal (number r)

-- the lines in the order of their numbers, which begin with 1, and the line of a number
abbrev pub lines : List Refusal
lines =
    RowLength ∷ MaskCount ∷ ValueBuffer ∷ AlphaCount ∷ MaskContents ∷ RowContents ∷ NotBelowP ∷ FlagsNotPlain ∷ FoldCount ∷ []

abbrev pub refusal : ℕ → Refusal
refusal n = get_or lines (n - 1) FoldCount

-- the number of what a call answers: 0 where it is not turned back
abbrev pub number_of : {A : Type 0} → Result A Refusal → ℕ
number_of (Ok _) = 0
number_of (Err r) = number r

-- the answer of a call that is turned back with a number
abbrev pub refused : {A : Type 0} → ℕ → Result A Refusal
refused n = Err (refusal n)
