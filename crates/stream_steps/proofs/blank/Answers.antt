use Rattle.stream_model.proofs.Onward.{blank-sound}
use Rattle.stream_steps.proofs.blank.Goals as goal

pub invariant_of-result : goal.invariant_of-result
invariant_of-result c = record { sound = blank-sound }
