-- What the program's functions keep to, whatever is read.
use Rattle.std.specs.Prelude.{◌≡◌, true, ℕ, ◌+◌, ◌*◌, ◌%◌, ◌<◌}
use Rattle.stream_model.specs.Model.{row_bytes}
use Rattle.stream_model.specs.declared.State.{State}

-- the state after printing: the same, unless it has ended
abbrev pub Kept : State → State → Type 0
Kept old new = new.running ≡ true → new ≡ old

-- where more may come, at least a byte more was read: of rows that are fed, or of the row that is not yet whole
abbrev pub Nearer : State → ℕ → State → ℕ → Type 0
Nearer old read new next =
    new.running ≡ true → row_bytes * old.rows + read % row_bytes < row_bytes * new.rows + next % row_bytes
