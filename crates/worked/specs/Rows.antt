-- The masks and the rows of document 01's worked pairs.
use Rattle.std.specs.Prelude.{true, List, [], ◌∷◌, ◌++◌, map, ℕ, zero, suc, ◌/◌, ◌%◌, ◌^◌, replicate, set}
use Rattle.table.specs.Columns.{NUM-CPU-COLS, COL-PC, COL-INST, COL-OP1-IMM, COL-OP0, COL-OP1, COL-S-OP0-START, COL-S-DST-START, COL-S-MLOAD, COL-S-END, COL-S-TLOAD, COL-IS-ENTRY-SC, COL-IS-PADDING}
use Rattle.table.specs.Masks.{SCCALL}
use Rattle.stream_model.specs.declared.State.{State}

-- "Masks 2^0..2^24"
abbrev pub powers : List ℕ
powers = map (λ i. 2 ^ i) (0 ∷ 1 ∷ 2 ∷ 3 ∷ 4 ∷ 5 ∷ 6 ∷ 7 ∷ 8 ∷ 9 ∷ 10 ∷ 11 ∷ 12 ∷ 13 ∷ 14 ∷ 15 ∷ 16 ∷ 17 ∷ 18 ∷ 19 ∷ 20 ∷ 21 ∷ 22 ∷ 23 ∷ 24 ∷ [])

-- "one zero row"
abbrev pub zeros : List ℕ
zeros = replicate NUM-CPU-COLS 0

-- "TLOAD": its selector, OP0 and OP1; every other column is 0, here and below
abbrev pub tload : ℕ → ℕ → List ℕ
tload op0 op1 = set (set (set zeros COL-S-TLOAD 1) COL-OP0 op0) COL-OP1 op1

-- "END": its selector, and whether the entry contract ends
abbrev pub end : ℕ → List ℕ
end entry = set (set zeros COL-S-END 1) COL-IS-ENTRY-SC entry

-- "OP1_IMM 1, op0 r0, dst r0, OPCODE 0", with an INST
abbrev pub encoded : ℕ → List ℕ
encoded inst = set (set (set (set zeros COL-OP1-IMM 1) COL-S-OP0-START 1) COL-S-DST-START 1) COL-INST inst

-- "MLOAD … with OP1_IMM 0", and a row with a PC
abbrev pub mload : List ℕ
mload = set zeros COL-S-MLOAD 1

abbrev pub at_pc : ℕ → List ℕ
at_pc pc = set zeros COL-PC pc

-- the masks with another last one, and a zero row with another last column
abbrev pub last_mask : ℕ → List ℕ
last_mask mask = set powers SCCALL mask

abbrev pub last_column : ℕ → List ℕ
last_column c = set zeros COL-IS-PADDING c

-- numbers as rowdesk reads them, "each value 8 bytes, low byte first", and the input of the masks and one zero row
abbrev pub bytes_of : ℕ → ℕ → List ℕ
bytes_of zero n = []
bytes_of (suc k) n = n % 256 ∷ bytes_of k (n / 256)

abbrev pub bytes_of_all : List ℕ → List ℕ
bytes_of_all [] = []
bytes_of_all (v ∷ vs) = bytes_of 8 v ++ bytes_of_all vs

abbrev pub one_zero_row : List ℕ
one_zero_row = bytes_of_all powers ++ bytes_of_all zeros

-- rowdesk's state after the masks and n zero rows
abbrev pub after : ℕ → State
after n = record { masks = powers; first = zeros; previous = zeros; rows = n; running = true }
