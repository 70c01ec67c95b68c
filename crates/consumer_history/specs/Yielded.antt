-- Values that are yielded to a consumer one after the other.
use Rattle.std.specs.Prelude.{List, [], ◌∷◌, map, ℕ}
use Rattle.algebra.specs.Expr.{eval}
use Rattle.residue.specs.Residues.{residues}
use Rattle.table.specs.Cells.{Cell}
use Rattle.table.specs.Entry.{Kind as Kind_of_table, plain, transition, first, Entry}
use Rattle.consumer.specs.declared.ConstraintConsumer.{ConstraintConsumer}
use Rattle.consumer.specs.declared.Kind.{Kind}
use Rattle.consumer.specs.declared.Kind.TheVariants.{Plain, Transition, FirstRow}
use Rattle.consumer.specs.Consumer.{weighted, taken, lent_after}

-- a value, and the kind of the call that it is yielded to
pub record Yielded : Type 0 where
  pub kind : Kind
  pub value : ℕ

unfoldable pub taken_all : ConstraintConsumer → List Yielded → ConstraintConsumer
taken_all c [] = c
taken_all c (y ∷ ys) = taken_all (lent_after c (taken y.kind c y.value)) ys

-- the values, each with its weight applied
abbrev pub weighted_all : ConstraintConsumer → List Yielded → List ℕ
weighted_all c ys = map (λ (y : Yielded). weighted c y.kind y.value) ys

-- constraints of the table, each yielded to the call of its kind: "none of the 226 uses" the last-row form (document
-- 02, 2/12)
abbrev pub call_of : Kind_of_table → Kind
call_of plain = Plain
call_of transition = Transition
call_of first = FirstRow

abbrev pub yielded : (Cell → ℕ) → List Entry → List Yielded
yielded env es = map (λ (e : Entry). record { kind = call_of e.kind; value = eval residues env e.expr }) es
