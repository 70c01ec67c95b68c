-- Values that are yielded to a consumer, each to the call of its kind.
use Rattle.std.specs.Prelude.{List, [], ◌∷◌, map, ℕ}
use Rattle.table.specs.Table.{table}
use Rattle.consumer.specs.declared.Kind.{Kind}
use Rattle.consumer_history.specs.Yielded.{Yielded, call_of}

-- the kinds of the table's entries, in order
unfoldable pub kinds : List Kind
kinds = map (λ e. call_of e.kind) table

-- each value to the call of its kind
unfoldable pub yielded_by : List Kind → List ℕ → List Yielded
yielded_by [] vs = []
yielded_by (k ∷ ks) [] = []
yielded_by (k ∷ ks) (v ∷ vs) = record { kind = k; value = v } ∷ yielded_by ks vs
