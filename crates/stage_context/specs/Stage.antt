-- A stage of the table, as the code writes it.
use Rattle.std.specs.Prelude.{List, ◌++◌}
use Rattle.table.specs.Entry.{Entry}
use Rattle.table.specs.CpuStark.{constraint_wrapper_cols, constraint_tx_init, eval_packed_generic_body, constraint_ext_lines, constraint_env_idx}

-- A to E
unfoldable pub context : List Entry
context = constraint_wrapper_cols ++ constraint_tx_init ++ eval_packed_generic_body ++ constraint_ext_lines ++ constraint_env_idx
