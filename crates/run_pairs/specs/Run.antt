-- "A run is 1 to 65,536 rows" (document 01): its rows, its pairs, and with which number it is turned back.
use Rattle.std.specs.Prelude.{Bool, cond, List, [], ◌∷◌, ℕ, zero, suc, ◌+◌, ◌*◌, ◌/◌, length, take, drop, eqb}
use Rattle.refusals.specs.Refusal.{lowest, run_length, mask_count, mask_contents, row_contents}
use Rattle.table.specs.Columns.{NUM-CPU-COLS}
use Rattle.table.specs.Table.{pair_values}

-- "each row is handed on as the row's own part of the lent run": row i of a run, and how many rows it has
unfoldable pub row_at : List ℕ → ℕ → List ℕ
row_at run i = take NUM-CPU-COLS (drop (NUM-CPU-COLS * i) run)

abbrev pub row_count : List ℕ → ℕ
row_count run = length run / NUM-CPU-COLS

-- of a run of n rows: "Pair i is rows i and i+1; the last pair returns to row 0."
abbrev pub is_last_pair : ℕ → ℕ → Bool
is_last_pair n i = eqb (i + 1) n

abbrev pub next_row_index : ℕ → ℕ → ℕ
next_row_index n i = cond (is_last_pair n i) 0 (i + 1)

-- "Weights: z_last 0 on the last pair, else 1; first 1 on pair 0, else 0."
abbrev pub last_weight : ℕ → ℕ → ℕ
last_weight n i = cond (is_last_pair n i) 0 1

abbrev pub first_weight : ℕ → ℕ
first_weight i = cond (eqb i 0) 1 0

-- the values of pair i of a run of n rows
unfoldable pub pair_at : List ℕ → List ℕ → ℕ → ℕ → List ℕ
pair_at run masks n i = pair_values masks (row_at run i) (row_at run (next_row_index n i)) (last_weight n i) (first_weight i)

-- f i, f (i + 1), .., k of them
unfoldable pub tabulate : {A : Type 0} → (ℕ → A) → ℕ → ℕ → List A
tabulate f i zero = []
tabulate f i (suc k) = f i ∷ tabulate f (suc i) k

-- the values of all its pairs
unfoldable pub pairs_of : List ℕ → List ℕ → List (List ℕ)
pairs_of run masks = tabulate (pair_at run masks (row_count run)) 0 (row_count run)

-- the number with which a run is turned back, or 0
unfoldable pub run_refusal : List ℕ → List ℕ → ℕ
run_refusal run masks = lowest (run_length run ∷ mask_count masks ∷ mask_contents masks ∷ row_contents run ∷ [])
