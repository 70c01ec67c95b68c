-- What the entries of src/lib.rt answer.
use Rattle.std.specs.Prelude.{[], ◌∷◌, ℕ, Result, Ok, Err}
use Rattle.refusals.specs.Refusal.{lowest, unless, not_below_p, refused}
use Rattle.refusals.specs.declared.Refusal.{Refusal}

-- document 01's value for each case, beside the number (`number_of`): the value, or 0 with the number of the refusal
abbrev pub value : Result ℕ Refusal → ℕ
value (Ok v) = v
value (Err _) = 0

-- the value f a b, unless an operand is not below p
abbrev pub checked : (ℕ → ℕ → ℕ) → ℕ → ℕ → Result ℕ Refusal
checked f a b = unless (lowest (not_below_p (a ∷ b ∷ []) ∷ [])) refused (Ok (f a b))
