-- `stream_blocks::feed_rows` meets its contract: after i rows the state and the texts are those of the first i rows.
use mathlib.Core.Path.{◌≡◌, sym, ap, ◌∙◌}
use mathlib.Core.Bool.{false≢true}
use mathlib.Core.List.{List}
use Prim.Native.Nat.{ℕ}
use native.Mathlib.Omega.{arith}
use borrow.Author.Rules.{rules}
use borrow.Author.Tests.{not-true, not-false}
use lib.ListN.{length}
use Rattle.stream_model.specs.declared.State.{State}
use Rattle.stream_model.proofs.Fed.{fed_none, fed_more, fed_still}
use Rattle.stream_blocks.proofs.Laws.{none_given, row-given, one_given, all_given}
use Rattle.stream_blocks.proofs.feed_rows.Goals as goal
use Rattle.stream_blocks.proofs.feed_rows.Goals.{
  then-not-after-via-then-not-after,
  then-not-after-via-else-not-after+then-room-lt-PAIR_BYTES,
}

pub loop-i-init : goal.loop-i-init
loop-i-init g c =
    let z : c.into_iter-i-iterator.result.count ≡ 0 = search rules in
    record {
      fed = rw z (fed_none _ _ _ _ c.args.s.sound);
      left = none_given (search rules) (search rules) z;
    }

-- with no row fed the state is the first one, and the buffer has all its room
pub returns-then-not-after-clause-some : goal.returns-then-not-after-clause-some
returns-then-not-after-clause-some g c = λ run some room.
    let n : c.in-Some.i ≡ 0 → ⊥ = λ e.
    let still = fed_still _ _ _ _ c.loop-i.invariant.fed (sym c.in-Some.ensures.steps.1 ∙ e) in
    elim c.then-not-after.branch [
      | then-not-after-via-then-not-after w ↦
          false≢true (sym (not-true _ w.if-not-after.true) ∙ ap (λ (t : State). t.running) still.0 ∙ run)
      | then-not-after-via-else-not-after+then-room-lt-PAIR_BYTES w ↦
          omega (arith, ap (λ (l : List ℕ). length l) still.1)
    ]
    in
    omega arith

pub loop-i-preserved : goal.loop-i-preserved
loop-i-preserved g c =
    let given = c.in-Some.ensures.steps in
    let cut = given.0.1 in
    let row = row-given c.loop-i.invariant.left _ _ cut.0 cut.1 in
    let gives = rw row at c.feed-after.ensures.gives in
    record {
      fed =
          rw given.2
          (fed_more _ _ _ _ c.loop-i.invariant.fed (not-false _ c.if-not-after.false) gives
          c.feed-after.ensures.onward);
      left = one_given c.loop-i.invariant.left _ _ cut.0 cut.1 given.0.0 given.2;
    }

pub returns-clause-gives : goal.returns-clause-gives
returns-clause-gives g c =
    let e = all_given c.loop-i.invariant.left c.in-None.ensures.steps.0.1.0 in
    let f = rw e at c.loop-i.invariant.fed in
    record { state_is = f.is; text_is = f.put }

pub returns-clause-onward : goal.returns-clause-onward
returns-clause-onward g c =
    let e = all_given c.loop-i.invariant.left c.in-None.ensures.steps.0.1.0 in
    let f = rw e at c.loop-i.invariant.fed in
    f.onward
