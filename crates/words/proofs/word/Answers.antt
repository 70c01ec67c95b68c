-- `words::word` meets its contract.
use mathlib.Core.Path.{◌∙◌}
use Rattle.words.proofs.Laws.{word_is}
use Rattle.words.proofs.word.Goals as goal

pub returns : goal.returns
returns c = c.from_le_bytes.ensures ∙ word_is (rw c.unwrap-first.ensures at c.first_chunk.ensures.cases)
