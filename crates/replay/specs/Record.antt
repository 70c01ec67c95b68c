-- A record of the sample: a pair, and the values that the Rust gave for it.
use Rattle.std.specs.Prelude.{◌≡◌, List, ℕ, get_or, take, drop}
use Rattle.table.specs.Table.{pair_values}

-- 25 masks, 94 values of the current row, 94 of the next, z_last, lagrange_basis_first: the values that the table gives
-- them
abbrev pub table_values : List ℕ → List ℕ
table_values r = pair_values (take 25 r) (take 94 (drop 25 r)) (take 94 (drop 119 r)) (get_or r 213 0) (get_or r 214 0)

-- behind those, the Rust's values: they are the table's
unfoldable pub Agrees : List ℕ → Type 0
Agrees r = table_values r ≡ take 226 (drop 215 r)
