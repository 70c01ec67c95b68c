-- Rows fed one after the other.
use Rattle.std.specs.Prelude.{cond, List, [], ◌++◌, ℕ, zero, suc, ◌*◌, ◌/◌, length, take, drop}
use Rattle.stream_model.specs.Model.{row_bytes, Stepped, PairText, feed_of}
use Rattle.stream_model.specs.declared.State.{State}

-- how many whole rows the bytes have
abbrev pub rows_in : List ℕ → ℕ
rows_in bytes = length bytes / row_bytes

module _ (text : PairText) where
  -- one step more, where more may come: its state, and its text behind the others
  unfoldable pub then_fed : Stepped → List ℕ → Stepped
  then_fed t bytes =
      cond t.state.running
      (record { state = (feed_of text t.state bytes).state; text = t.text ++ (feed_of text t.state bytes).text })
      t

  -- the first k rows of the bytes, fed one after the other
  unfoldable pub fed_rows : ℕ → State → List ℕ → Stepped
  fed_rows zero s bytes = record { state = s; text = [] }
  fed_rows (suc k) s bytes = then_fed (fed_rows k s bytes) (take row_bytes (drop (row_bytes * k) bytes))
