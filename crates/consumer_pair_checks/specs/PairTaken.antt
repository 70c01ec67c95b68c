-- A pair folded into a consumer: what the call answers.
use Rattle.std.specs.Prelude.{List, [], ◌∷◌, ◌++◌, ℕ, Result, Ok}
use Rattle.refusals.specs.Refusal.{lowest, unless, sizes, alpha_count, contents, not_below_p, fold_count, refused}
use Rattle.refusals.specs.declared.Refusal.{Refusal}
use Rattle.table.specs.Table.{pair_values}
use Rattle.consumer.specs.declared.ConstraintConsumer.{ConstraintConsumer}
use Rattle.consumer.specs.Consumer.{held, with_values}

-- the number with which the call is turned back, or 0: masks, current row, next row. All 226 values are folded, or
-- none: "It refuses with 9 a fold that would pass a count of 4,294,967,295, checked after all others" (document 02,
-- 2/12)
unfoldable pub pair_taken_refusal : List ℕ → List ℕ → List ℕ → ConstraintConsumer → ℕ
pair_taken_refusal masks lv nv c =
    lowest (sizes masks lv nv ++ (alpha_count c.count c.count ∷ []) ++ contents masks lv nv
    ++ (not_below_p (held c) ∷ fold_count c.folded 226 ∷ []))

-- the 226 values of the pair are folded, in order, each with the consumer's own weight applied
unfoldable pub pair_taken : List ℕ → List ℕ → List ℕ → ConstraintConsumer → Result ConstraintConsumer Refusal
pair_taken masks lv nv c =
    unless (pair_taken_refusal masks lv nv c) refused
    (Ok (with_values c (pair_values masks lv nv c.z_last c.lagrange_basis_first)))
