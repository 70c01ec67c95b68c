-- "A fault sheet lists, for each pair of a run, every nonzero value" (document 02, 1/12).
use Rattle.std.specs.Prelude.{cond, List, [], ◌∷◌, ◌++◌, ℕ, suc, ℤ, eqb}
use Rattle.text.specs.Decimal.{decimal_of, signed_decimal}
use Rattle.field_signed.specs.Signed.{signed_of}
use Rattle.stream_text.specs.Lines.{space, line_end}

-- what a line says: "pair, value number and signed number"
pub record Fault : Type 0 where
  pub pair : ℕ
  pub number : ℕ
  pub signed : ℤ

-- "one line for each and no other, .. numbers rising within a pair": of the values of a pair, the first of which has
-- the number k
unfoldable pub pair_faults : ℕ → ℕ → List ℕ → List Fault
pair_faults pair k [] = []
pair_faults pair k (v ∷ vs) =
    cond (eqb v 0) (pair_faults pair (suc k) vs)
    (record { pair = pair; number = k; signed = signed_of v } ∷ pair_faults pair (suc k) vs)

-- "pairs rising": of pairs of which these are the values; the first of the list is pair i
unfoldable pub faults_from : ℕ → List (List ℕ) → List Fault
faults_from i [] = []
faults_from i (vs ∷ pairs) = pair_faults i 1 vs ++ faults_from (suc i) pairs

-- "as pair, value number and signed number, one space between"
unfoldable pub fault_line : Fault → List ℕ
fault_line f =
    decimal_of f.pair ++ space ++ decimal_of f.number ++ space ++ signed_decimal f.signed ++ line_end

-- the lines, one behind the other
unfoldable pub faults_text : List Fault → List ℕ
faults_text [] = []
faults_text (f ∷ fs) = fault_line f ++ faults_text fs

-- the text of a pair, of which these are the values
abbrev pub faults_of_pair : ℕ → List ℕ → List ℕ
faults_of_pair pair vs = faults_text (pair_faults pair 1 vs)
