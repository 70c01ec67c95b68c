-- `judge_rules::keeps` meets its contract.
-- Kept: with an attribute that names `groups`, `rulebook_joins` and `both` in place of the list the check finds no proof.
use mathlib.Core.Path.{sym, ◌∙◌}
use Rattle.judge_columns.proofs.Rules.{both}
use Rattle.judge_rules.proofs.Groups.{groups}
use Rattle.judge_rules.proofs.Joins.{rulebook_joins}
use Rattle.judge_rules.proofs.keeps.Goals as goal

pub returns : goal.returns
returns c =
    sym (rulebook_joins _ _ _ _ _ _ c.kind-kind.ensures ∙
    search (
      c.keeps_wrapper_cols.ensures,
      c.keeps_tx_init.ensures,
      c.keeps_body.ensures,
      c.keeps_ext_lines.ensures,
      c.keeps_env_idx.ensures,
      c.keeps_opcode_selector.ensures,
      c.keeps_instruction_encode.ensures,
      c.keeps_operands.ensures,
      c.keeps_clk.ensures,
      c.keeps_pc.ensures,
      c.keeps_registers.ensures,
      c.keeps_arithmetic.ensures,
      c.keeps_tape.ensures,
      c.keeps_call_sc.ensures,
      groups,
      both,
    )
    depth 100 fits 100000)
