-- `edge_streams::main` meets its contract.
use mathlib.Core.Path.{sym}
use borrow.Author.Rules.{rules}
use Rattle.tally.specs.Tally.{nonzeros, first_from}
use Rattle.text.specs.Decimal.{decimal_of, digits_of}
use Rattle.field_signed.specs.Signed.{signed_of}
use Rattle.stream_text.specs.Lines.{line_of}
use Rattle.stream_text.specs.PairLines.{line_of_pair}
use Rattle.stream_text.specs.Faults.{pair_faults, fault_line, faults_text, faults_of_pair}
use Rattle.edge_streams.proofs.ZeroRows.{end-text}
use Rattle.edge_streams.proofs.main.Goals as goal

pub edges-requires : goal.edges-requires
unfolding nonzeros first_from line_of decimal_of digits_of
edges-requires c = record {
  one = sym (end-text line_of_pair 1 (search rules));
  most = sym (end-text line_of_pair 65536 (search rules));
}

pub edges-requires-2 : goal.edges-requires-2
unfolding pair_faults faults_text fault_line signed_of decimal_of digits_of
edges-requires-2 c = record {
  one = sym (end-text faults_of_pair 1 (search rules));
  most = sym (end-text faults_of_pair 65536 (search rules));
}
