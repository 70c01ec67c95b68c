-- The theorem: a pair of rows with plain flags keeps every rule of the rulebook exactly where all its 226 values are 0.
use mathlib.Core.Path.{◌≡◌, refl, sym, ◌∙◌}
use mathlib.Core.Logic.{◌↔◌}
use mathlib.Core.Bool.{true}
use mathlib.Core.List.{List}
use Prim.Native.Nat.{ℕ, ◌<◌}
use lib.ListN.{get_or}
use lib.Dec.{T, lit<}
use Rattle.algebra.specs.Prime.{p}
use Rattle.algebra.specs.Lists.{All}
use Rattle.table.specs.Cells.{cells}
use Rattle.table.specs.Rows.{Row}
use Rattle.table.specs.Entry.{values}
use Rattle.table.specs.Table.{table, pair_values}
use Rattle.rulebook.specs.Plain.{is_first, is_last, Accepted, pair_keeps, pair_plain}
use Rattle.rulebook.proofs.Tests.{true_of, of_true}
use Rattle.rulebook.proofs.Open.{open_table}
use Rattle.rulebook.proofs.Sentences.{zero_entries}
use Rattle.rulebook.proofs.Equivalence.{values-are_rules}
use Rattle.rulebook.proofs.Weights.{values-zero, zero-values}
use Rattle.rulebook.proofs.Pair.{fair_table, pair, plain-is, same_rows, masks-differ, canonical-cells}

-- the values that repeat others add nothing: value 147 is value 145, and value 177 is value 169, on every input
module _ (masks lv nv : List ℕ) (z f : ℕ) where
  pub value_147_repeats : get_or (pair_values masks lv nv z f) 146 0 ≡ get_or (pair_values masks lv nv z f) 144 0
  unfolding pair_values values open_table
  value_147_repeats = refl

  pub value_177_repeats : get_or (pair_values masks lv nv z f) 176 0 ≡ get_or (pair_values masks lv nv z f) 168 0
  unfolding pair_values values open_table
  value_177_repeats = refl

-- Let masks be accepted, both rows canonical, their flags plain, and both weights canonical. The row is first where
-- lagrange_basis_first (f) is not 0, and last where z_last (z) is 0.
module _ (masks lv nv : List ℕ) (z f : ℕ) (accepted : Accepted masks) (row : Row lv) (next_row : Row nv) (plain : pair_plain lv nv ≡ true)
    (z_below : z < p) (f_below : f < p) where
  entries_are_rules : zero_entries (pair masks lv nv) (is_first f) (is_last z) table ≡ pair_keeps masks lv nv (is_first f) (is_last z)
  unfolding pair_keeps
  entries_are_rules =
      values-are_rules (pair masks lv nv) (is_first f) (is_last z) (canonical-cells masks lv nv accepted row next_row 0 0 (lit< tt) (lit< tt))
      (sym (plain-is masks lv nv) ∙ plain)
      (masks-differ masks lv nv accepted)

  -- a pair that keeps every rule has values that are all 0
  pub values_of_rules : T (pair_keeps masks lv nv (is_first f) (is_last z)) → All (λ v. v ≡ 0) (pair_values masks lv nv z f)
  unfolding pair_values
  values_of_rules h =
      values-zero (pair masks lv nv) (cells masks lv nv z f) (same_rows masks lv nv z f)
      (canonical-cells masks lv nv accepted row next_row z f z_below f_below)
      table
      fair_table
      (entries_are_rules ∙ true_of _ h)

  -- a pair whose values are all 0 keeps every rule
  pub rules_of_values : All (λ v. v ≡ 0) (pair_values masks lv nv z f) → T (pair_keeps masks lv nv (is_first f) (is_last z))
  unfolding pair_values
  rules_of_values h =
      of_true _
      (sym entries_are_rules
      ∙ zero-values (pair masks lv nv) (cells masks lv nv z f) (same_rows masks lv nv z f)
      (canonical-cells masks lv nv accepted row next_row z f z_below f_below)
      table
      fair_table
      h)

  -- "the pair keeps every rule" exactly where "its 226 values" are 0
  pub rules_iff_values : T (pair_keeps masks lv nv (is_first f) (is_last z)) ↔ All (λ v. v ≡ 0) (pair_values masks lv nv z f)
  rules_iff_values = (values_of_rules, rules_of_values)
