-- `judge_transaction::keeps_wrapper_cols` meets its contract.
-- Kept: with the attribute that opens the rules, with `bools` and without, the search ends at one of its limits.
use mathlib.Core.Path.{sym, ◌∙◌}
use Rattle.rulebook.specs.Rulebook.{rules_A}
use Rattle.judge_columns.proofs.Rules.{keeps, rules, chains, exprs}
use Rattle.judge_columns.proofs.Told.{tells}
use Rattle.judge_kinds.proofs.Unread.{length_told}
use Rattle.judge_transaction.proofs.keeps_wrapper_cols.Goals as goal

pub returns : goal.returns
unfolding rules_A
returns c =
    sym (keeps _ _ _ _ _ ∙
    search (
      c.at-pad.ensures,
      c.at.ensures,
      c.sub-pad_step.ensures,
      c.off-next_not_pad.ensures,
      c.grows-tx_grows.ensures,
      c.ext_length-length.ensures,
      c.is_bit.ensures.rule,
      c.is_bit-2.ensures.rule,
      c.on.ensures,
      c.is.ensures,
      c.on-2.ensures,
      c.off.ensures,
      c.on-3.ensures,
      c.kept.ensures,
      c.off-2.ensures,
      c.on-4.ensures,
      c.at-2.ensures,
      c.equal.ensures,
      length_told,
      tells,
      rules,
      chains,
      exprs,
    )
    depth 100 fits 100000)
