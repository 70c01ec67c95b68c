-- `edge_consumer::push_table` meets its contract: the kinds of the code are the table's.
use Rattle.rulebook.proofs.Open.{open_table}
use Rattle.edge_consumer.specs.Calls.{kinds}
use Rattle.edge_consumer.proofs.push_table.Goals as goal

pub returns : goal.returns
unfolding open_table kinds
returns c = c.push_all.ensures
