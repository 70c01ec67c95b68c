-- A stage of the table, as the code writes it.
use Rattle.std.specs.Prelude.{List, ◌++◌}
use Rattle.table.specs.Entry.{Entry}
use Rattle.table.specs.SimpleArithmaticOp.{simple_arithmatic_op}
use Rattle.table.specs.Tape.{tape}
use Rattle.table.specs.CallSc.{call_sc}

-- L to N
unfoldable pub opcodes : List Entry
opcodes = simple_arithmatic_op ++ tape ++ call_sc
