-- `edge_consumer::by_consumer` meets its contract: what the fold accepts, the values and the consumer do.
use mathlib.Core.Path.{ap, ◌∙◌}
use lib.Dec.{lit<}
use Rattle.refusals.specs.Refusal.{number_of}
use Rattle.theorems.proofs.ByConsumer.{made-is}
use Rattle.edge_consumer.proofs.Laws.{values-accepted, left_by_consumer, not_refused}
use Rattle.edge_consumer.proofs.by_consumer.Goals as goal

pub returns-in_err-pair_values : goal.returns-in_err-pair_values
returns-in_err-pair_values c =
    absurd
    (not_refused _ _ c.in_err-pair_values.was
    (c.pair_values.ensures.number ∙ values-accepted _ _ _ _ _ _ _ c.requires))

pub returns-in_err-consumer : goal.returns-in_err-consumer
returns-in_err-consumer c =
    absurd
    (not_refused _ _ c.in_err-consumer.was
    (ap number_of (c.new.ensures ∙ made-is _ _ _ _ _ 1 _ _ c.requires (lit< tt))))

pub returns : goal.returns
returns c =
    left_by_consumer _ _ _ _ _ _ _ c.requires _ _ _ _ c.pair_values.ensures.buffer c.in_ok-consumer.ensures
    c.push_table.ensures
    c.accumulators.ensures.accumulators
