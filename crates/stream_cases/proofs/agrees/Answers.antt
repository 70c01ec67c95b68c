-- `stream_cases::agrees` meets its contract.
use mathlib.Core.Path.{refl, sym, ◌∙◌}
use Rattle.stream_cases.proofs.Laws.{stripped, none_left, printed_start, printed_row, printed_all}
use Rattle.stream_cases.proofs.agrees.Goals as goal

pub loop-after-init : goal.loop-after-init
loop-after-init g c =
    printed_start refl c.min.ensures c.split_at.ensures.front c.split_at.ensures.back c.start-after.ensures
    (stripped c.bytes.ensures.value c.in-Some.ensures.cases)

pub loop-after-preserved : goal.loop-after-preserved
loop-after-preserved g c =
    printed_row c.clear.ensures c.loop-after.invariant c.loop-after-test.true c.min-in-loop-after.ensures
    c.split_at-in-loop-after.ensures.front c.split_at-in-loop-after.ensures.back c.feed-after.ensures.gives
    (stripped c.bytes-in-loop-after.ensures.value c.in-Some-strip_prefix.ensures.cases)

pub returns : goal.returns
returns g c = λ e. printed_all c.loop-after.invariant c.loop-after-test.false (none_left _ (sym c.is_empty.ensures ∙ e))
