-- What a program that reads such an input prints, step by step: rowdesk, and every program that differs from it in the
-- text of a pair alone.
use Rattle.std.specs.Prelude.{◌≡◌, true, false, cond, ◌||◌, List, [], ◌∷◌, ◌++◌, ℕ, zero, suc, ◌+◌, ◌-◌, ◌*◌, length, take, drop, replicate, eqb, leb, ltb}
use Rattle.refusals.specs.Refusal.{mask_contents, row_contents}
use Rattle.table.specs.Columns.{NUM-CPU-COLS}
use Rattle.table.specs.Masks.{NUM-MASKS}
use Rattle.table.specs.Table.{pair_values}
use Rattle.run_pairs.specs.Run.{first_weight, row_at}
use Rattle.words.specs.Words.{words}
use Rattle.stream_text.specs.Lines.{refused_of}
use Rattle.stream_model.specs.declared.State.{State}

-- the bytes of the masks and of a row: "each value 8 bytes"
abbrev pub mask_bytes : ℕ
mask_bytes = 8 * NUM-MASKS

abbrev pub row_bytes : ℕ
row_bytes = 8 * NUM-CPU-COLS

-- the state after a step, and what the step prints
pub record Stepped : Type 0 where
  pub state : State
  pub text : List ℕ

-- before the masks are read, and before the first row
abbrev pub blank : State
blank = record {
  masks = replicate NUM-MASKS 0;
  first = replicate NUM-CPU-COLS 0;
  previous = replicate NUM-CPU-COLS 0;
  rows = 0;
  running = false;
}

abbrev pub ready : List ℕ → State
ready masks = record {
  masks = masks;
  first = replicate NUM-CPU-COLS 0;
  previous = replicate NUM-CPU-COLS 0;
  rows = 0;
  running = true;
}

-- "it keeps the first and the previous row by value": after the first row, after a later one, and at the end
abbrev pub opened : State → List ℕ → State
opened s row = record { masks = s.masks; first = row; previous = row; rows = 1; running = true }

abbrev pub advanced : State → List ℕ → State
advanced s row = record { masks = s.masks; first = s.first; previous = row; rows = s.rows + 1; running = true }

abbrev pub ended : State → State
ended s = record { masks = s.masks; first = s.first; previous = s.previous; rows = s.rows; running = false }

-- "The first fault in reading order ends it with one line"
abbrev pub refused_by : State → ℕ → Stepped
refused_by s number = record { state = ended s; text = refused_of number }

-- "2 for too few masks, 5": all masks, and what was read for them
unfoldable pub masks_of : List ℕ → Stepped
masks_of masks = cond (mask_contents masks).holds (refused_by blank 5) (record { state = ready masks; text = [] })

unfoldable pub start_of : List ℕ → Stepped
start_of bytes = cond (eqb (length bytes) mask_bytes) (masks_of (words NUM-MASKS bytes)) (refused_by blank 2)

-- what the program prints of a pair, from the pair's index and values
abbrev pub PairText : Type 0
PairText = ℕ → List ℕ → List ℕ

module _ (text : PairText) where
  -- the text of the pair of the previous row, which is row rows - 1, and the row `next`, with z_last
  unfoldable pub pair_text : State → List ℕ → ℕ → List ℕ
  pair_text s next z = text (s.rows - 1) (pair_values s.masks s.previous next z (first_weight (s.rows - 1)))

  -- "pair i is printed once row i + 1 is accepted"
  unfoldable pub accept_of : State → List ℕ → Stepped
  accept_of s row =
      cond (eqb s.rows 0) (record { state = opened s row; text = [] })
      (record { state = advanced s row; text = pair_text s row 1 })

  -- "per row, taken whole before its contents are judged, 1 for .. a 65,537th, else 6"
  unfoldable pub row_of : State → List ℕ → Stepped
  row_of s row =
      cond (leb 65536 s.rows) (refused_by s 1) (cond (row_contents row).holds (refused_by s 6) (accept_of s row))

  -- "the last pair at the end of the input", and "1 for .. no row"
  unfoldable pub end_of : State → Stepped
  end_of s = cond (eqb s.rows 0) (refused_by s 1) (record { state = ended s; text = pair_text s s.first 0 })

  -- what was read for a row: nothing at the end of the input, and "1 for a partial row"
  unfoldable pub feed_of : State → List ℕ → Stepped
  feed_of s bytes =
      cond (eqb (length bytes) 0) (end_of s)
      (cond (eqb (length bytes) row_bytes) (row_of s (words NUM-CPU-COLS bytes)) (refused_by s 1))

  -- the texts of at most k steps, row by row: "lines already printed stand"
  unfoldable pub steps_of : ℕ → State → List ℕ → List ℕ
  steps_of zero s input = []
  steps_of (suc k) s input =
      elim s.running [
        | true ↦ (feed_of s (take row_bytes input)).text ++ steps_of k (feed_of s (take row_bytes input)).state (drop row_bytes input)
        | false ↦ []
      ]

  -- the texts of all steps: each but the last takes a byte, so that there are at most so many (`rows_step` of
  -- proofs/Steps.antt)
  abbrev pub rows_of : State → List ℕ → List ℕ
  rows_of s input = steps_of (suc (length input)) s input

  -- "reads from standard input 25 masks, then rows": what the whole program prints on an input
  unfoldable pub output_of : List ℕ → List ℕ
  output_of input = (start_of (take mask_bytes input)).text ++ rows_of (start_of (take mask_bytes input)).state (drop mask_bytes input)

  -- the texts of pairs of which these are the values, one behind the other; the first of the list is pair i
  unfoldable pub texts_from : ℕ → List (List ℕ) → List ℕ
  texts_from i [] = []
  texts_from i (vs ∷ pairs) = text i vs ++ texts_from (suc i) pairs

-- the values of pair j of a run, where row j + 1 follows
abbrev pub followed : List ℕ → List ℕ → ℕ → List ℕ
followed run masks j = pair_values masks (row_at run j) (row_at run (suc j)) 1 (first_weight j)

-- "per row, taken whole before its contents are judged, 1 for a partial row, no row or a 65,537th, else 6": the number
-- with which what follows n accepted rows is turned back; 0 where it begins with a row that is accepted, or is the end
-- behind at least one
abbrev pub refusal_after : ℕ → List ℕ → ℕ
refusal_after n rest =
    cond (eqb (length rest) 0) (cond (eqb n 0) 1 0)
    (cond (ltb (length rest) row_bytes || leb 65536 n) 1
    (cond (row_contents (words NUM-CPU-COLS (take row_bytes rest))).holds 6 0))

-- a step's answer is one step of the model: the state, and the text behind what the buffer held
pub record Gives (s : Stepped) (state : State) (old new : List ℕ) : Type 0 where
  pub state_is : state ≡ s.state
  pub text_is : new ≡ old ++ s.text

-- the masks of an input, and the run of its n rows
abbrev pub masks_in : List ℕ → List ℕ
masks_in input = words NUM-MASKS (take mask_bytes input)

abbrev pub run_in : ℕ → List ℕ → List ℕ
run_in n input = words (NUM-CPU-COLS * n) (drop mask_bytes input)
