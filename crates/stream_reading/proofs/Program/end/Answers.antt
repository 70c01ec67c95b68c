-- `Program::end` meets its contract: less than a row ends the program.
use mathlib.Core.Path.{ap, ◌∙◌}
use Rattle.stream_model.specs.declared.State.{State}
use Rattle.stream_model.proofs.Steps.{short_ends}
use Rattle.stream_reading.proofs.Laws.{kept-ended}
use Rattle.stream_reading.proofs.Program.end.Goals as goal

pub returns : goal.returns
returns g c =
    kept-ended c.print.ensures
    (ap (λ (t : State). t.running) c.feed-after.ensures.gives.state_is ∙ short_ends _ _ _ c.requires)
