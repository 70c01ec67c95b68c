-- What a list of faults has to be, and what it tells: the statements of proofs/Listed.antt.
use Rattle.std.specs.Prelude.{◌≡◌, ◌⊎◌, ◌≢◌, cond, List, [], ◌∷◌, ℕ, suc, ◌<◌, get_or}
use Rattle.algebra.specs.Lists.{All, Mem, NoDup}
use Rattle.refusals.specs.Refusal.{member}
use Rattle.answers.specs.declared.Spot.{Spot}
use Rattle.answers.specs.declared.Spot.TheVariants.{Clean, At}
use Rattle.field_signed.specs.Signed.{signed_of}
use Rattle.stream_text.specs.Faults.{Fault}

-- value k + 1 of pair i; 0 where there is no such pair or value
abbrev pub value_at : List (List ℕ) → ℕ → ℕ → ℕ
value_at pairs i k = get_or (get_or pairs i []) k 0

-- the line of that value
abbrev pub fault_at : List (List ℕ) → ℕ → ℕ → Fault
fault_at pairs i k = record { pair = i; number = suc k; signed = signed_of (value_at pairs i k) }

-- "pairs rising, numbers rising within a pair": each line comes before all that follow it
abbrev pub Before : Fault → Fault → Type 0
Before f g = (f.pair < g.pair) ⊎ ((f.pair ≡ g.pair) × (f.number < g.number))

abbrev pub Rising : List Fault → Type 0
Rising [] = Unit
Rising (f ∷ fs) = All (Before f) fs × Rising fs

-- "every nonzero value ..; one line for each and no other, pairs rising, numbers rising within a pair"
pub record Listed (pairs : List (List ℕ)) (faults : List Fault) : Type 0 where
  pub every : (i k : ℕ) → value_at pairs i k ≢ 0 → Mem (fault_at pairs i k) faults
  pub no_other : (f : Fault) → Mem f faults → (k : ℕ) × (f ≡ fault_at pairs f.pair k) × (value_at pairs f.pair k ≢ 0)
  pub rising : Rising faults
  pub once : NoDup faults

-- the pairs of the lines, and how many distinct numbers a list has
abbrev pub pairs_on : List Fault → List ℕ
pairs_on [] = []
pairs_on (f ∷ fs) = f.pair ∷ pairs_on fs

unfoldable pub distinct_count : List ℕ → ℕ
distinct_count [] = 0
distinct_count (n ∷ ns) = cond (member n ns) (distinct_count ns) (suc (distinct_count ns))

-- the pair and the number of the first line
abbrev pub first_on : List Fault → Spot
first_on [] = Clean
first_on (f ∷ fs) = At f.pair f.number
