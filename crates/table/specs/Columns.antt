-- The columns of a row (columns.rs), with the numbers that document 01 sets. A `Range` has its start and its end. The names
-- have - for _ here, so that none is that of a constant of src/.
use Rattle.std.specs.Prelude.{ℕ}

abbrev pub REGISTER-NUM : ℕ
REGISTER-NUM = 10

abbrev pub CTX-REGISTER-NUM : ℕ
CTX-REGISTER-NUM = 4

abbrev pub COL-TX-IDX : ℕ
COL-TX-IDX = 0

abbrev pub COL-ENV-IDX : ℕ
COL-ENV-IDX = 1

abbrev pub COL-CALL-SC-CNT : ℕ
COL-CALL-SC-CNT = 2

abbrev pub COL-ADDR-STORAGE-RANGE-START : ℕ
COL-ADDR-STORAGE-RANGE-START = 3

abbrev pub COL-ADDR-STORAGE-RANGE-END : ℕ
COL-ADDR-STORAGE-RANGE-END = 7

abbrev pub COL-ADDR-CODE-RANGE-START : ℕ
COL-ADDR-CODE-RANGE-START = 7

abbrev pub COL-ADDR-CODE-RANGE-END : ℕ
COL-ADDR-CODE-RANGE-END = 11

abbrev pub COL-TP : ℕ
COL-TP = 11

abbrev pub COL-CLK : ℕ
COL-CLK = 12

abbrev pub COL-PC : ℕ
COL-PC = 13

abbrev pub COL-IS-EXT-LINE : ℕ
COL-IS-EXT-LINE = 14

abbrev pub COL-EXT-CNT : ℕ
COL-EXT-CNT = 15

abbrev pub COL-START-REG : ℕ
COL-START-REG = 16

abbrev pub COL-REGS-START : ℕ
COL-REGS-START = 16

abbrev pub COL-REGS-END : ℕ
COL-REGS-END = 26

abbrev pub COL-INST : ℕ
COL-INST = 26

abbrev pub COL-OP1-IMM : ℕ
COL-OP1-IMM = 27

abbrev pub COL-OPCODE : ℕ
COL-OPCODE = 28

abbrev pub COL-IMM-VAL : ℕ
COL-IMM-VAL = 29

abbrev pub COL-OP0 : ℕ
COL-OP0 = 30

abbrev pub COL-OP1 : ℕ
COL-OP1 = 31

abbrev pub COL-DST : ℕ
COL-DST = 32

abbrev pub COL-AUX0 : ℕ
COL-AUX0 = 33

abbrev pub COL-AUX1 : ℕ
COL-AUX1 = 34

abbrev pub COL-IDX-STORAGE : ℕ
COL-IDX-STORAGE = 35

abbrev pub COL-S-OP0-START : ℕ
COL-S-OP0-START = 36

abbrev pub COL-S-OP0-END : ℕ
COL-S-OP0-END = 46

abbrev pub COL-S-OP1-START : ℕ
COL-S-OP1-START = 46

abbrev pub COL-S-OP1-END : ℕ
COL-S-OP1-END = 56

abbrev pub COL-S-DST-START : ℕ
COL-S-DST-START = 56

abbrev pub COL-S-DST-END : ℕ
COL-S-DST-END = 66

abbrev pub COL-S-SIMPLE-ARITHMATIC-OP : ℕ
COL-S-SIMPLE-ARITHMATIC-OP = 66

abbrev pub COL-S-MOV : ℕ
COL-S-MOV = 67

abbrev pub COL-S-JMP : ℕ
COL-S-JMP = 68

abbrev pub COL-S-CJMP : ℕ
COL-S-CJMP = 69

abbrev pub COL-S-CALL : ℕ
COL-S-CALL = 70

abbrev pub COL-S-RET : ℕ
COL-S-RET = 71

abbrev pub COL-S-MLOAD : ℕ
COL-S-MLOAD = 72

abbrev pub COL-S-MSTORE : ℕ
COL-S-MSTORE = 73

abbrev pub COL-S-END : ℕ
COL-S-END = 74

abbrev pub COL-S-RC : ℕ
COL-S-RC = 75

abbrev pub COL-S-BITWISE : ℕ
COL-S-BITWISE = 76

abbrev pub COL-S-NOT : ℕ
COL-S-NOT = 77

abbrev pub COL-S-GTE : ℕ
COL-S-GTE = 78

abbrev pub COL-S-PSDN : ℕ
COL-S-PSDN = 79

abbrev pub COL-S-SLOAD : ℕ
COL-S-SLOAD = 80

abbrev pub COL-S-SSTORE : ℕ
COL-S-SSTORE = 81

abbrev pub COL-S-TLOAD : ℕ
COL-S-TLOAD = 82

abbrev pub COL-S-TSTORE : ℕ
COL-S-TSTORE = 83

abbrev pub COL-S-CALL-SC : ℕ
COL-S-CALL-SC = 84

abbrev pub NUM-OP-SELECTOR : ℕ
NUM-OP-SELECTOR = 19

abbrev pub COL-IS-ENTRY-SC : ℕ
COL-IS-ENTRY-SC = 85

abbrev pub COL-IS-NEXT-LINE-DIFF-INST : ℕ
COL-IS-NEXT-LINE-DIFF-INST = 86

abbrev pub COL-IS-NEXT-LINE-SAME-TX : ℕ
COL-IS-NEXT-LINE-SAME-TX = 87

abbrev pub COL-FILTER-TAPE-LOOKING : ℕ
COL-FILTER-TAPE-LOOKING = 88

abbrev pub IS-SCCALL-EXT-LINE : ℕ
IS-SCCALL-EXT-LINE = 89

abbrev pub COL-IS-STORAGE-EXT-LINE : ℕ
COL-IS-STORAGE-EXT-LINE = 90

abbrev pub COL-FILTER-SCCALL-END : ℕ
COL-FILTER-SCCALL-END = 91

abbrev pub COL-FILTER-LOOKING-PROG-IMM : ℕ
COL-FILTER-LOOKING-PROG-IMM = 92

abbrev pub COL-IS-PADDING : ℕ
COL-IS-PADDING = 93

abbrev pub NUM-CPU-COLS : ℕ
NUM-CPU-COLS = 94
