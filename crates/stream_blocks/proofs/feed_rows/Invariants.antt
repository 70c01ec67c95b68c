use Rattle.stream_model.proofs.Fed.{Fed}
use Rattle.stream_blocks.proofs.Laws.{RowsLeft}
use Rattle.stream_blocks.proofs.feed_rows.Given as goal

abbrev pub invariant-loop-i : goal.invariant-loop-i
invariant-loop-i g l = record {
  fed : Fed g.T.PairText.text l.initial.after.state l.bytes l.initial.out l.out l.i-iterator.count l.after.state;
  left : RowsLeft l.bytes l.i-iterator.iter.rest.now l.i-iterator.iter.size l.i-iterator.count;
}
