-- What every state keeps to, so that a pair can be evaluated at any step.
use Rattle.std.specs.Prelude.{◌≡◌, true, ℕ, ◌+◌, ◌≤◌}
use Rattle.table.specs.Rows.{Row, Masks}
use Rattle.stream_model.specs.declared.State.{State}

-- masks and rows as the core asks, and no more rows than a run has
pub record Sound (s : State) : Type 0 where
  pub masks : Masks s.masks
  pub first : Row s.first
  pub previous : Row s.previous
  pub few : s.rows ≤ 65536

-- a state after others: sound, and where more may come k rows further
pub record Onward (k : ℕ) (old new : State) : Type 0 where
  pub sound : Sound new
  pub rows : new.running ≡ true → new.rows ≡ old.rows + k
