-- The constraint table: the 226 entries in the order in which `eval_packed_generic` of CpuStark yields them.
use Rattle.std.specs.Prelude.{List, ◌++◌, ℕ}
use Rattle.residue.specs.Residues.{residues}
use Rattle.table.specs.Cells.{cells}
use Rattle.table.specs.Entry.{Entry, values}
use Rattle.table.specs.CpuStark.{constraint_wrapper_cols, constraint_tx_init, eval_packed_generic_body, constraint_ext_lines, constraint_env_idx, constraint_opcode_selector, constraint_instruction_encode, constraint_operands_mathches_registers, constraint_env_unchanged_clk, constraint_env_unchanged_pc, constraint_reg_consistency}
use Rattle.table.specs.SimpleArithmaticOp.{simple_arithmatic_op}
use Rattle.table.specs.Tape.{tape}
use Rattle.table.specs.CallSc.{call_sc}

unfoldable pub table : List Entry
table =
    constraint_wrapper_cols
    ++ constraint_tx_init
    ++ eval_packed_generic_body
    ++ constraint_ext_lines
    ++ constraint_env_idx
    ++ constraint_opcode_selector
    ++ constraint_instruction_encode
    ++ constraint_operands_mathches_registers
    ++ constraint_env_unchanged_clk
    ++ constraint_env_unchanged_pc
    ++ constraint_reg_consistency
    ++ simple_arithmatic_op
    ++ tape
    ++ call_sc

-- the 226 values of a pair: masks, current row, next row, z_last, lagrange_basis_first
unfoldable pub pair_values : List ℕ → List ℕ → List ℕ → ℕ → ℕ → List ℕ
pair_values masks lv nv z f = values residues (cells masks lv nv z f) table
