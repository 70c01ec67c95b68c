-- A group's rules, whatever its call does not take.
use Prim.Native.Nat.{ℕ}
use mathlib.Core.Path.{◌≡◌, sym}
use mathlib.Core.Bool.{Bool, false}
use mathlib.Core.List.{List, []}
use Rattle.algebra.specs.Expr.{eval}
use Rattle.table.specs.Entry.{plus_all}
use Rattle.rulebook.specs.Rule.{holds, keeps_sentence, keeps_all}
use Rattle.rulebook.specs.Rulebook.{rules_A, rules_B, rules_C, rules_D, rules_E, rules_F, rules_G, rules_H, rules_I, rules_J, rules_K, rules_L, rules_M, rules_N}
use Rattle.judge_columns.specs.Group.{keeps_rules}
use Rattle.judge_kinds.proofs.Unread.{length_masks}
use Rattle.judge_opcode.proofs.Unread.{opcode_next}
use Rattle.judge_pc_registers.proofs.Unread.{goes-masks}

module _ (m l n : List ℕ) (k : ℕ) (first last : Bool) {a : Bool} where
  pub wrapper_cols_told : a ≡ keeps_rules rules_A [] l n k false last → keeps_rules rules_A m l n k first last ≡ a
  unfolding rules_A keeps_all keeps_sentence holds eval
  wrapper_cols_told h = rw (length_masks m l n 0 0 k) (sym h)

  pub tx_init_told : a ≡ keeps_rules rules_B [] l n 0 first last → keeps_rules rules_B m l n k first last ≡ a
  unfolding rules_B keeps_all keeps_sentence holds eval
  tx_init_told h = sym h

  pub body_told : a ≡ keeps_rules rules_C [] l n k false last → keeps_rules rules_C m l n k first last ≡ a
  unfolding rules_C keeps_all keeps_sentence holds eval
  body_told h = sym h

  pub ext_lines_told : a ≡ keeps_rules rules_D [] l n k false false → keeps_rules rules_D m l n k first last ≡ a
  unfolding rules_D keeps_all keeps_sentence holds eval
  ext_lines_told h = rw (length_masks m l n 0 0 k) (sym h)

  pub env_idx_told : a ≡ keeps_rules rules_E [] l n k false last → keeps_rules rules_E m l n k first last ≡ a
  unfolding rules_E keeps_all keeps_sentence holds eval
  env_idx_told h = sym h

  pub selector_told : a ≡ keeps_rules rules_F m l [] k false false → keeps_rules rules_F m l n k first last ≡ a
  unfolding rules_F keeps_all keeps_sentence holds eval
  selector_told h = rw (opcode_next m l n 0 0 k) (sym h)

  pub encode_told : a ≡ keeps_rules rules_G [] l [] 0 false false → keeps_rules rules_G m l n k first last ≡ a
  unfolding rules_G keeps_all keeps_sentence holds eval plus_all
  encode_told h = sym h

  pub operands_told : a ≡ keeps_rules rules_H [] l n 0 false false → keeps_rules rules_H m l n k first last ≡ a
  unfolding rules_H keeps_all keeps_sentence holds eval
  operands_told h = sym h

  pub clk_told : a ≡ keeps_rules rules_I [] l n k false false → keeps_rules rules_I m l n k first last ≡ a
  unfolding rules_I keeps_all keeps_sentence holds eval
  clk_told h = sym h

  pub pc_told : a ≡ keeps_rules rules_J [] l n k false false → keeps_rules rules_J m l n k first last ≡ a
  unfolding rules_J keeps_all keeps_sentence holds eval
  pc_told h = rw (goes-masks m l n 0 0 k) (sym h)

  pub registers_told : a ≡ keeps_rules rules_K [] l n k false last → keeps_rules rules_K m l n k first last ≡ a
  unfolding rules_K keeps_all keeps_sentence holds eval
  registers_told h = sym h

  pub arithmetic_told : a ≡ keeps_rules rules_L m l [] k false false → keeps_rules rules_L m l n k first last ≡ a
  unfolding rules_L keeps_all keeps_sentence holds eval
  arithmetic_told h = sym h

  pub tape_told : a ≡ keeps_rules rules_M [] l n k false false → keeps_rules rules_M m l n k first last ≡ a
  unfolding rules_M keeps_all keeps_sentence holds eval
  tape_told h = sym h

  pub call_sc_told : a ≡ keeps_rules rules_N [] l n k false last → keeps_rules rules_N m l n k first last ≡ a
  unfolding rules_N keeps_all keeps_sentence holds eval
  call_sc_told h = sym h

pub ruleset groups =
    (wrapper_cols_told, tx_init_told, body_told, ext_lines_told, env_idx_told, selector_told, encode_told, operands_told, clk_told, pc_told, registers_told, arithmetic_told, tape_told, call_sc_told)
