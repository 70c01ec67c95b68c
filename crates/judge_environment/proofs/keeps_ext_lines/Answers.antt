-- `judge_environment::keeps_ext_lines` meets its contract.
-- Kept: with the attribute that opens the rules, with `bools` and without, the search ends at one of its limits.
use mathlib.Core.Path.{sym, ◌∙◌}
use Rattle.rulebook.specs.Rulebook.{rules_D}
use Rattle.judge_columns.proofs.Rules.{keeps, rules, chains, exprs}
use Rattle.judge_columns.proofs.Told.{tells}
use Rattle.judge_kinds.proofs.Unread.{length_told}
use Rattle.judge_environment.proofs.keeps_ext_lines.Goals as goal

pub returns : goal.returns
unfolding rules_D
returns c =
    sym (keeps _ _ _ _ _ ∙
    search (
      c.is_ext_kind-ext_kind.ensures,
      c.off-main.ensures,
      c.on-next_ext.ensures,
      c.off-next_main.ensures,
      c.grows-cnt_grows.ensures,
      c.kept.ensures,
      c.all_carried.ensures,
      c.kept-2.ensures,
      c.at.ensures,
      c.ext_length.ensures,
      c.equal.ensures,
      c.off.ensures,
      c.next_is_ext_kind.ensures.row,
      length_told,
      tells,
      rules,
      chains,
      exprs,
    )
    depth 100 fits 100000)
