-- A stage of the table, as the code writes it.
use Rattle.std.specs.Prelude.{List, ◌++◌}
use Rattle.table.specs.Entry.{Entry}
use Rattle.table.specs.CpuStark.{constraint_env_unchanged_clk, constraint_env_unchanged_pc, constraint_reg_consistency}

-- I to K
unfoldable pub flow : List Entry
flow = constraint_env_unchanged_clk ++ constraint_env_unchanged_pc ++ constraint_reg_consistency
