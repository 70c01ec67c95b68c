-- What the entry for the values of a pair answers, and what it leaves in the lent buffer.
use Rattle.std.specs.Prelude.{cond, ◌≡◌, List, [], ◌∷◌, ◌++◌, ℕ, length, drop, eqb}
use Rattle.refusals.specs.Refusal.{lowest, sizes, contents, value_buffer, not_below_p}
use Rattle.table.specs.Table.{pair_values}

-- the number with which the call is turned back, or 0: masks, current row, next row, z_last, lagrange_basis_first, the buffer's length
unfoldable pub pair_values_refusal : List ℕ → List ℕ → List ℕ → ℕ → ℕ → ℕ → ℕ
pair_values_refusal masks lv nv z f room =
    lowest (sizes masks lv nv ++ (value_buffer room ∷ []) ++ contents masks lv nv ++ (not_below_p (z ∷ f ∷ []) ∷ []))

-- the buffer after the call: "only the first 226 are written", and a refused call changes nothing
unfoldable pub pair_values_buffer : List ℕ → List ℕ → List ℕ → ℕ → ℕ → List ℕ → List ℕ
pair_values_buffer masks lv nv z f out =
    cond (eqb (pair_values_refusal masks lv nv z f (length out)) 0) (pair_values masks lv nv z f ++ drop 226 out) out

-- a call for the values of a pair: the number that it answers, and the lent buffer before and after it
pub record PairValuesCall (masks lv nv : List ℕ) (z f : ℕ) (before : List ℕ) (answer : ℕ) (after : List ℕ) : Type 0 where
  pub number : answer ≡ pair_values_refusal masks lv nv z f (length before)
  pub buffer : after ≡ pair_values_buffer masks lv nv z f before
