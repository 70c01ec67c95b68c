-- The places of the 25 masks that stand in for `OlaOpcode::binary_bit_mask`, in the order of document 01.
use Rattle.std.specs.Prelude.{ℕ}

abbrev pub ADD : ℕ
ADD = 0

abbrev pub MUL : ℕ
MUL = 1

abbrev pub EQ : ℕ
EQ = 2

abbrev pub NEQ : ℕ
NEQ = 3

abbrev pub ASSERT : ℕ
ASSERT = 4

abbrev pub AND : ℕ
AND = 5

abbrev pub OR : ℕ
OR = 6

abbrev pub XOR : ℕ
XOR = 7

abbrev pub MOV : ℕ
MOV = 8

abbrev pub JMP : ℕ
JMP = 9

abbrev pub CJMP : ℕ
CJMP = 10

abbrev pub CALL : ℕ
CALL = 11

abbrev pub RET : ℕ
RET = 12

abbrev pub MLOAD : ℕ
MLOAD = 13

abbrev pub MSTORE : ℕ
MSTORE = 14

abbrev pub END : ℕ
END = 15

abbrev pub RC : ℕ
RC = 16

abbrev pub NOT : ℕ
NOT = 17

abbrev pub GTE : ℕ
GTE = 18

abbrev pub POSEIDON : ℕ
POSEIDON = 19

abbrev pub SLOAD : ℕ
SLOAD = 20

abbrev pub SSTORE : ℕ
SSTORE = 21

abbrev pub TLOAD : ℕ
TLOAD = 22

abbrev pub TSTORE : ℕ
TSTORE = 23

abbrev pub SCCALL : ℕ
SCCALL = 24

abbrev pub NUM-MASKS : ℕ
NUM-MASKS = 25
