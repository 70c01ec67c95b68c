-- What the two maps answer.
use Rattle.std.specs.Prelude.{[], ◌∷◌, ℕ, ℤ, pos, Result, Ok, Err}
use Rattle.refusals.specs.Refusal.{lowest, unless, not_below_p, not_in_range, refused}
use Rattle.refusals.specs.declared.Refusal.{Refusal}
use Rattle.field_signed.specs.Signed.{signed_of, residue_of}

-- document 01's value for each case, beside the number (`number_of`): the value, or 0 with the number of the refusal
abbrev pub value : Result ℤ Refusal → ℤ
value (Ok z) = z
value (Err _) = pos 0

-- the signed form of a number, unless it is not below p
abbrev pub to_signed : ℕ → Result ℤ Refusal
to_signed r = unless (lowest (not_below_p (r ∷ []) ∷ [])) refused (Ok (signed_of r))

-- "A signed number outside the range is refused with 7.": else its residue
abbrev pub to_residue : ℤ → Result ℕ Refusal
to_residue z = unless (lowest (not_in_range z ∷ [])) refused (Ok (residue_of z))
