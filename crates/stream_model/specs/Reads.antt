-- What a program prints where its input arrives in pieces, each from one read.
use Rattle.std.specs.Prelude.{List, [], ◌∷◌, ◌++◌, ℕ, ◌*◌, drop}
use Rattle.stream_model.specs.Model.{row_bytes, PairText, start_of}
use Rattle.stream_model.specs.declared.State.{State}
use Rattle.stream_model.specs.Rows.{rows_in, then_fed, fed_rows}

-- what some reads leave: the state, the part of a row that is left over, and what is printed
pub record Held : Type 0 where
  pub state : State
  pub carried : List ℕ
  pub text : List ℕ

-- before the first read
abbrev pub nothing_read : State → Held
nothing_read s = record { state = s; carried = []; text = [] }

module _ (text : PairText) where
  -- after a read: the rows that are whole are fed, and the part of a row behind them is left over
  abbrev pub after_bytes : Held → List ℕ → Held
  after_bytes h bytes = record {
    state = (fed_rows text (rows_in bytes) h.state bytes).state;
    carried = drop (row_bytes * rows_in bytes) bytes;
    text = h.text ++ (fed_rows text (rows_in bytes) h.state bytes).text;
  }

  unfoldable pub after_reads : Held → List (List ℕ) → Held
  after_reads h [] = h
  after_reads h (read ∷ reads) = after_reads (after_bytes h (h.carried ++ read)) reads

  -- at the end of the input: what is left over is fed as it is
  abbrev pub at_end : Held → List ℕ
  at_end h = (then_fed text (record { state = h.state; text = h.text }) h.carried).text

  -- what is printed after the masks' bytes and some reads; and what the program prints where the input ends behind them
  abbrev pub printed_by : List ℕ → List (List ℕ) → List ℕ
  printed_by masks reads = (start_of masks).text ++ (after_reads (nothing_read (start_of masks).state) reads).text

  abbrev pub printed_at_end : List ℕ → List (List ℕ) → List ℕ
  printed_at_end masks reads = (start_of masks).text ++ at_end (after_reads (nothing_read (start_of masks).state) reads)
