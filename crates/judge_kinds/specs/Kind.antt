-- The number of a kind: "the instruction kind is a number 0 to 18, decided case by case".
use Rattle.std.specs.Prelude.{Option, None, Some, ℕ}
use Rattle.judge_kinds.specs.declared.kinds.Kind.{Kind}
use Rattle.judge_kinds.specs.declared.kinds.Kind.TheVariants as K

abbrev pub kind_number : Kind → ℕ
kind_number K.SimpleArithmaticOp = 0
kind_number K.Mov = 1
kind_number K.Jmp = 2
kind_number K.Cjmp = 3
kind_number K.Call = 4
kind_number K.Ret = 5
kind_number K.Mload = 6
kind_number K.Mstore = 7
kind_number K.End = 8
kind_number K.Rc = 9
kind_number K.Bitwise = 10
kind_number K.Not = 11
kind_number K.Gte = 12
kind_number K.Psdn = 13
kind_number K.Sload = 14
kind_number K.Sstore = 15
kind_number K.Tload = 16
kind_number K.Tstore = 17
kind_number K.CallSc = 18

-- 19 where a row has no kind
unfoldable pub number_of_kind : Option Kind → ℕ
number_of_kind None = 19
number_of_kind (Some k) = kind_number k
