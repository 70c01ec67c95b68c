-- `stream_steps::feed` meets its contract.
use borrow.Author.Rules.{rules}
use Rattle.stream_model.proofs.Onward.{end_onward, row_onward}
use Rattle.stream_steps.proofs.feed.Goals as goal

pub returns-then-is_empty-clause-onward : goal.returns-then-is_empty-clause-onward
returns-then-is_empty-clause-onward g c = end_onward _ _ c.args.s.sound c.finish.ensures

pub returns-then-bytes-eq-ROW_BYTES-clause-onward : goal.returns-then-bytes-eq-ROW_BYTES-clause-onward
returns-then-bytes-eq-ROW_BYTES-clause-onward g c = row_onward _ _ c.args.s.sound _ (search rules) c.whole_row.ensures
