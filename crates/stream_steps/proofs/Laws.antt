-- The values of a pair, as the step computes them, are few and canonical.
use mathlib.Core.Path.{◌≡◌}
use mathlib.Core.Bool.{true}
use mathlib.Core.List.{List, append-nil}
use Prim.Native.Nat.{ℕ, ◌-◌, ◌≤◌, ◌<◌}
use native.Mathlib.Omega.{arith}
use lib.ListN.{length}
use Rattle.algebra.specs.Prime.{p}
use Rattle.algebra.specs.Lists.{All}
use Rattle.refusals.specs.Refusal.{canonical}
use Rattle.refusals.proofs.Laws.{canonical-below}
use Rattle.table.specs.Rows.{Row}
use Rattle.table.specs.Table.{pair_values}
use Rattle.rulebook.proofs.Pair.{values_count}
use Rattle.run_pairs.specs.Run.{first_weight}
use Rattle.stream_model.specs.Sound.{Sound}
use Rattle.stream_model.specs.declared.State.{State}
use Rattle.stream_model.proofs.Laws.{first_below, pair-canonical}

pub pair_few : (masks lv nv : List ℕ) (z w : ℕ) → length (pair_values masks lv nv z w) ≤ 226
pair_few masks lv nv z w = omega (arith, values_count masks lv nv z w)

pub pair_below : (s : State) (nv : List ℕ) (z w : ℕ) → w ≡ first_weight (s.rows - 1) → Sound s → Row nv → z < p
    → All (λ v. v < p) (pair_values s.masks s.previous nv z w)
pair_below s nv z w f k r l = pair-canonical k.masks k.previous r l (first_below (s.rows - 1) w f)

-- the buffer of the values has nothing behind them
pub ruleset nothing_behind = (append-nil)

-- a row that was read and tested
pub row_of_canonical : (row : List ℕ) → length row ≡ 94 → canonical row ≡ true → Row row
row_of_canonical row l e = record { size = l; below = canonical-below row e }
