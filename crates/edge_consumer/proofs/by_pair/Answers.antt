-- `edge_consumer::by_pair` meets its contract: what the fold accepts, the consumer does.
use mathlib.Core.Path.{sym, ap, ◌∙◌}
use lib.Dec.{lit<}
use Rattle.refusals.specs.Refusal.{number_of}
use Rattle.refusals.proofs.Laws.{given-is}
use Rattle.consumer.specs.declared.ConstraintConsumer.{ConstraintConsumer}
use Rattle.consumer.specs.Consumer.{accumulators}
use Rattle.consumer_pair_checks.specs.PairTaken.{pair_taken}
use Rattle.theorems.proofs.ByConsumer.{made-is, taken-is, by_pair}
use Rattle.edge_consumer.proofs.Laws.{not_refused}
use Rattle.edge_consumer.proofs.by_pair.Goals as goal

pub returns-in_err-consumer : goal.returns-in_err-consumer
returns-in_err-consumer c =
    absurd
    (not_refused _ _ c.in_err-consumer.was
    (ap number_of (c.new.ensures ∙ made-is _ _ _ _ _ 1 _ _ c.requires (lit< tt))))

pub returns-in_err-consumer-2 : goal.returns-in_err-consumer-2
returns-in_err-consumer-2 c =
    let made = (given-is 0 _ _ (c.in_ok-consumer.ensures ∙ made-is _ _ _ _ _ 1 _ _ c.requires (lit< tt))).1 in
    absurd
    (not_refused _ _ c.in_err-consumer-2.was
    (ap number_of (c.fold_pair.ensures ∙ ap (pair_taken _ _ _) made ∙ taken-is _ _ _ _ _ 1 _ _ c.requires (lit< tt))))

pub returns : goal.returns
returns c =
    let made = (given-is 0 _ _ (c.in_ok-consumer.ensures ∙ made-is _ _ _ _ _ 1 _ _ c.requires (lit< tt))).1 in
    let taken =
    (given-is 0 _ _ (c.in_ok-consumer-2.ensures ∙ ap (pair_taken _ _ _) made ∙ taken-is _ _ _ _ _ 1 _ _ c.requires (lit< tt))).1 in
    c.accumulators.ensures.accumulators
    ∙ ap (λ (d : ConstraintConsumer). accumulators d c.args.accs.now) taken
    ∙ sym (by_pair _ _ _ _ _ 1 _ _ c.requires (lit< tt))
