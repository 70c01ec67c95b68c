-- What a run's report tells of the rulebook: for a run all of whose pairs have plain flags.
use Rattle.std.specs.Prelude.{◌≡◌, true, List, ℕ, ◌<◌}
use Rattle.rulebook.specs.Plain.{is_first, is_last, pair_keeps, pair_plain}
use Rattle.run_pairs.specs.Run.{row_at, row_count, next_row_index, last_weight, first_weight}

-- pair i of the run has plain flags, and keeps every rule for its place in the run
abbrev pub PlainAt : List ℕ → ℕ → Type 0
PlainAt run i = pair_plain (row_at run i) (row_at run (next_row_index (row_count run) i)) ≡ true

abbrev pub KeepsAt : List ℕ → List ℕ → ℕ → Type 0
KeepsAt run masks i =
    pair_keeps masks (row_at run i) (row_at run (next_row_index (row_count run) i)) (is_first (first_weight i)) (is_last (last_weight (row_count run) i)) ≡ true

-- every pair of the run does
abbrev pub EveryPair : List ℕ → (ℕ → Type 0) → Type 0
EveryPair run P = (i : ℕ) → i < row_count run → P i
