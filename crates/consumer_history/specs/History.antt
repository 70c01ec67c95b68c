-- "In a record made new with count 0 and altered by these calls alone (so for later states too), the count equals the
-- length of the list of values folded, each with its weight already applied, and every accumulator is the fold of that
-- list from its starting value." (document 02, 2/12)
use Rattle.std.specs.Prelude.{◌≡◌, List, [], ◌∷◌, ◌++◌, ℕ, ◌<◌, ◌≤◌, length, get_or, Result, Ok, Err}
use Rattle.algebra.specs.Fold.{fold}
use Rattle.refusals.specs.declared.Refusal.{Refusal}
use Rattle.residue.specs.Residues.{residues}
use Rattle.table.specs.Table.{pair_values}
use Rattle.consumer.specs.declared.ConstraintConsumer.{ConstraintConsumer}
use Rattle.consumer.specs.declared.Kind.{Kind}
use Rattle.consumer.specs.Consumer.{weighted, taken, lent_after, empty, made}
use Rattle.consumer_pair_checks.specs.PairTaken.{pair_taken}

-- a call that alters a record: a value to the call of its kind, and a pair by masks, current row and next row
pub data Call : Type 0 where
  value : Kind → ℕ → Call
  pair : List ℕ → List ℕ → List ℕ → Call

-- what the entry of that call answers
abbrev pub answer : ConstraintConsumer → Call → Result ConstraintConsumer Refusal
answer c (value k v) = taken k c v
answer c (pair masks lv nv) = pair_taken masks lv nv c

-- the values that the call folds, each with its weight already applied
abbrev pub weighted_values : ConstraintConsumer → Call → List ℕ
weighted_values c (value k v) = weighted c k v ∷ []
weighted_values c (pair masks lv nv) = pair_values masks lv nv c.z_last c.lagrange_basis_first

-- "made new .. and altered by these calls alone": alphas, accumulators and the three weights, and then calls, taken or
-- refused
infixl 20 ◌then◌
pub data History : Type 0 where
  new : List ℕ → List ℕ → ℕ → ℕ → ℕ → History
  ◌then◌ : History → Call → History

-- the record as it was made (where `new` is refused, one without places), and as it stands
abbrev pub start : History → ConstraintConsumer
start (new alphas accs z f l) = lent_after empty (made alphas accs z f l)
start (h then call) = start h

abbrev pub now : History → ConstraintConsumer
now (new alphas accs z f l) = lent_after empty (made alphas accs z f l)
now (h then call) = lent_after (now h) (answer (now h) call)

-- "the list of values folded": a refused call folds none
abbrev pub folded_by : Result ConstraintConsumer Refusal → List ℕ → List ℕ
folded_by (Ok _) vs = vs
folded_by (Err _) vs = []

abbrev pub listed : History → List ℕ
listed (new alphas accs z f l) = []
listed (h then call) = listed h ++ folded_by (answer (now h) call) (weighted_values (now h) call)

-- what is promised of the record as it was made, as it stands, and of the list
pub record Promise (start now : ConstraintConsumer) (list : List ℕ) : Type 0 where
  -- "the count equals the length of the list"
  pub count : now.folded ≡ length list
  -- "every accumulator is the fold of that list from its starting value", under its alpha
  pub fold_of : (i : ℕ) → i < start.count →
      get_or now.constraint_accs i 0 ≡ fold residues (get_or start.alphas i 0) (get_or start.constraint_accs i 0) list
  -- the places past the count of places are as they were lent, and so is all else
  pub past : (i : ℕ) → start.count ≤ i → get_or now.constraint_accs i 0 ≡ get_or start.constraint_accs i 0
  pub alphas : now.alphas ≡ start.alphas
  pub places : now.count ≡ start.count
  pub z_last : now.z_last ≡ start.z_last
  pub lagrange_basis_first : now.lagrange_basis_first ≡ start.lagrange_basis_first
  pub lagrange_basis_last : now.lagrange_basis_last ≡ start.lagrange_basis_last
