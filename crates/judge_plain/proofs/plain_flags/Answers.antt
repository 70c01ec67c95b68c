-- `judge_plain::plain_flags` meets its contract.
use Rattle.rulebook.specs.Plain.{bits, plain_flags, pair_plain}
use Rattle.judge_columns.proofs.Rules.{bools}
use Rattle.judge_plain.proofs.plain_flags.Goals as goal

pub returns : goal.returns
unfolding pair_plain plain_flags bits
returns c = rw (c.all_bits.ensures.value, rw c.words.ensures.value at c.ones.ensures) (simp bools cc)
