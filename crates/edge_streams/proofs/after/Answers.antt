-- `edge_streams::after` meets its contract.
use mathlib.Core.Path.{ap, ◌∙◌}
use native.Mathlib.Omega.{arith}
use lib.ListN.{replicate}
use Rattle.stream_text.specs.PairLines.{line_of_pair}
use Rattle.stream_model.specs.Model.{row_bytes, feed_of}
use Rattle.stream_model.specs.declared.State.{State}
use Rattle.edge_streams.proofs.ZeroRows.{masks-taken, row-taken}
use Rattle.edge_streams.proofs.after.Goals as goal

pub loop-fed-init : goal.loop-fed-init
loop-fed-init c = c.start-after.ensures.state_is ∙ masks-taken

pub loop-fed-preserved : goal.loop-fed-preserved
loop-fed-preserved c =
    c.feed-after.ensures.gives.state_is
    ∙ ap (λ (s : State). (feed_of line_of_pair s (replicate row_bytes 0)).state) c.loop-fed.invariant
    ∙ row-taken line_of_pair c.loop-fed._fed (omega arith)
