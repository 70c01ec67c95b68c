-- `edge_streams::edges` meets its contract.
use mathlib.Core.Path.{refl}
use Rattle.text.specs.Decimal.{decimal_of, digits_of}
use Rattle.stream_text.specs.Lines.{refused_of}
use Rattle.stream_model.specs.Model.{row_of, end_of, feed_of}
use Rattle.edge_streams.proofs.edges.Goals as goal

pub last_text-requires-clause-expected : goal.last_text-requires-clause-expected
unfolding feed_of end_of refused_of decimal_of digits_of
last_text-requires-clause-expected g c = refl

pub last_text-requires-4-clause-expected : goal.last_text-requires-4-clause-expected
unfolding feed_of row_of refused_of decimal_of digits_of
last_text-requires-4-clause-expected g c = refl
