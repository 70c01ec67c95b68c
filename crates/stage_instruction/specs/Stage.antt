-- A stage of the table, as the code writes it.
use Rattle.std.specs.Prelude.{List, ◌++◌}
use Rattle.table.specs.Entry.{Entry}
use Rattle.table.specs.CpuStark.{constraint_opcode_selector, constraint_instruction_encode, constraint_operands_mathches_registers}

-- F to H
unfoldable pub instruction : List Entry
instruction = constraint_opcode_selector ++ constraint_instruction_encode ++ constraint_operands_mathches_registers
