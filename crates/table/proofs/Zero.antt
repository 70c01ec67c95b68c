-- A row of zeros is a row, as the core asks.
use mathlib.Core.Path.{refl}
use Prim.Native.Nat.{ℕ, zero, suc, ◌<◌}
use lib.ListN.{get_or, replicate}
use lib.Dec.{lit<}
use Rattle.algebra.specs.Prime.{p}
use Rattle.table.specs.Rows.{Row}

pub zeros-below : (n i : ℕ) → get_or (replicate n 0) i 0 < p
zeros-below zero i = lit< tt
zeros-below (suc n) zero = lit< tt
zeros-below (suc n) (suc i) = zeros-below n i

pub zero_row : Row (replicate 94 0)
zero_row = record { size = refl; below = zeros-below 94 }
