-- What the core asks of the rows, the masks and the weights that it is given.
use Rattle.std.specs.Prelude.{◌≡◌, List, ℕ, ◌<◌, length, get_or}
use Rattle.algebra.specs.Prime.{p}
use Rattle.table.specs.Columns.{NUM-CPU-COLS}
use Rattle.table.specs.Masks.{NUM-MASKS}

pub record Row (l : List ℕ) : Type 0 where
  pub size : length l ≡ NUM-CPU-COLS
  pub below : (i : ℕ) → get_or l i 0 < p

pub record Masks (m : List ℕ) : Type 0 where
  pub size : length m ≡ NUM-MASKS
  pub below : (i : ℕ) → get_or m i 0 < p

pub record Rows (l n : List ℕ) : Type 0 where
  pub local : Row l
  pub next : Row n
