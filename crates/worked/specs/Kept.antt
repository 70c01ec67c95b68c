-- Pairs with plain flags that keep every rule: the rows of a small run, to be checked by hand against the rulebook. So
-- demand 3 speaks of something, for a row that is first, last, both and neither.
use Rattle.std.specs.Prelude.{◌≡◌, Bool, true, false, List, [], ◌∷◌, ◌++◌, ℕ, ◌+◌, ◌^◌, ◌<◌, replicate, set}
use Rattle.algebra.specs.Prime.{p}
use Rattle.table.specs.Columns.{COL-TP, COL-CLK, COL-PC, COL-IS-EXT-LINE, COL-EXT-CNT, COL-REGS-START, COL-INST, COL-OP1-IMM, COL-OPCODE, COL-IMM-VAL, COL-OP0, COL-OP1, COL-DST, COL-AUX0, COL-S-OP0-START, COL-S-DST-START, COL-S-SIMPLE-ARITHMATIC-OP, COL-S-END, COL-S-TSTORE, COL-IS-ENTRY-SC, COL-IS-NEXT-LINE-DIFF-INST, COL-IS-NEXT-LINE-SAME-TX, COL-FILTER-TAPE-LOOKING, COL-FILTER-LOOKING-PROG-IMM, COL-IS-PADDING}
use Rattle.table.specs.Masks as M
use Rattle.table.specs.Rows.{Row}
use Rattle.table.specs.Table.{pair_values}
use Rattle.rulebook.specs.Plain.{is_first, is_last, Accepted, pair_keeps, pair_plain}
use Rattle.answers.specs.declared.Spot.TheVariants.{Clean}
use Rattle.runs.specs.Report.{report_of}
use Rattle.theorems.specs.ManyFold.{FoldsToZero}
use Rattle.worked.specs.Rows.{powers, zeros}

-- a row with numbers in some columns, and 0 in every other
abbrev pub row_of : List (ℕ × ℕ) → List ℕ
row_of [] = zeros
row_of (c ∷ cs) = set (row_of cs) c.0 c.1

-- ADD: register 1 becomes register 0 plus the immediate value 5
abbrev pub add : List ℕ
add =
    row_of
    ((COL-INST, 2 ^ 62 + 2 ^ M.ADD + 2 ^ 52 + 2 ^ 33)
    ∷ (COL-OP1-IMM, 1)
    ∷ (COL-OPCODE, 2 ^ M.ADD)
    ∷ (COL-IMM-VAL, 5)
    ∷ (COL-OP1, 5)
    ∷ (COL-DST, 5)
    ∷ (COL-S-OP0-START, 1)
    ∷ (COL-S-DST-START + 1, 1)
    ∷ (COL-S-SIMPLE-ARITHMATIC-OP, 1)
    ∷ (COL-IS-NEXT-LINE-DIFF-INST, 1)
    ∷ (COL-IS-NEXT-LINE-SAME-TX, 1)
    ∷ (COL-FILTER-LOOKING-PROG-IMM, 1)
    ∷ [])

-- TSTORE: one cell of memory, at the address in register 1, goes onto the tape: its main row and its extension row
abbrev pub tstore : List ℕ
tstore =
    row_of
    ((COL-CLK, 1)
    ∷ (COL-PC, 2)
    ∷ (COL-REGS-START + 1, 5)
    ∷ (COL-INST, 2 ^ 62 + 2 ^ M.TSTORE + 2 ^ 53)
    ∷ (COL-OP1-IMM, 1)
    ∷ (COL-OPCODE, 2 ^ M.TSTORE)
    ∷ (COL-IMM-VAL, 1)
    ∷ (COL-OP0, 5)
    ∷ (COL-OP1, 1)
    ∷ (COL-S-OP0-START + 1, 1)
    ∷ (COL-S-TSTORE, 1)
    ∷ (COL-IS-NEXT-LINE-SAME-TX, 1)
    ∷ (COL-FILTER-LOOKING-PROG-IMM, 1)
    ∷ [])

abbrev pub tstore_ext : List ℕ
tstore_ext =
    row_of
    ((COL-CLK, 1)
    ∷ (COL-PC, 2)
    ∷ (COL-IS-EXT-LINE, 1)
    ∷ (COL-EXT-CNT, 1)
    ∷ (COL-REGS-START + 1, 5)
    ∷ (COL-OP1-IMM, 1)
    ∷ (COL-OPCODE, 2 ^ M.TSTORE)
    ∷ (COL-OP0, 5)
    ∷ (COL-OP1, 1)
    ∷ (COL-AUX0, 5)
    ∷ (COL-S-TSTORE, 1)
    ∷ (COL-IS-NEXT-LINE-DIFF-INST, 1)
    ∷ (COL-IS-NEXT-LINE-SAME-TX, 1)
    ∷ (COL-FILTER-TAPE-LOOKING, 1)
    ∷ [])

-- END of the entry contract: the transaction ends
abbrev pub end_entry : List ℕ
end_entry =
    row_of
    ((COL-TP, 1)
    ∷ (COL-CLK, 2)
    ∷ (COL-PC, 4)
    ∷ (COL-REGS-START + 1, 5)
    ∷ (COL-INST, 2 ^ M.END)
    ∷ (COL-OPCODE, 2 ^ M.END)
    ∷ (COL-S-END, 1)
    ∷ (COL-IS-ENTRY-SC, 1)
    ∷ (COL-IS-NEXT-LINE-DIFF-INST, 1)
    ∷ [])

-- padding, behind the last transaction
abbrev pub padding : List ℕ
padding =
    row_of
    ((COL-INST, 2 ^ M.END)
    ∷ (COL-OPCODE, 2 ^ M.END)
    ∷ (COL-S-END, 1)
    ∷ (COL-IS-ENTRY-SC, 1)
    ∷ (COL-IS-NEXT-LINE-DIFF-INST, 1)
    ∷ (COL-IS-PADDING, 1)
    ∷ [])

-- the run: after the instructions two rows of padding
abbrev pub kept_run : List ℕ
kept_run = add ++ tstore ++ tstore_ext ++ end_entry ++ padding ++ padding

-- canonical weights that tell whether a row is first, and whether it is last
pub record Weights (first last : Bool) (z f : ℕ) : Type 0 where
  pub z_below : z < p
  pub f_below : f < p
  pub first_told : is_first f ≡ first
  pub last_told : is_last z ≡ last

-- a pair of rows that meets every premise of demand 3 and keeps every rule, for a row that is first, or last; so that
-- under all weights that tell this place its 226 values are 0, and it folds from zero to zero under every alpha
pub record Kept (lv nv : List ℕ) (first last : Bool) : Type 0 where
  pub accepted : Accepted powers
  pub row : Row lv
  pub next_row : Row nv
  pub plain : pair_plain lv nv ≡ true
  pub keeps : pair_keeps powers lv nv first last ≡ true
  pub values : (z f : ℕ) → Weights first last z f → pair_values powers lv nv z f ≡ replicate 226 0
  pub folds : (z f : ℕ) → Weights first last z f → (alpha : ℕ) → alpha < p → FoldsToZero powers lv nv z f alpha

pub record KeptPairs : Type 0 where
  -- the pairs of the run: the first, those within, and the last, which returns to the first row
  pub of_add : Kept add tstore true false
  pub of_tstore : Kept tstore tstore_ext false false
  pub of_tstore_ext : Kept tstore_ext end_entry false false
  pub of_end : Kept end_entry padding false false
  pub of_padding : Kept padding padding false false
  pub of_last_padding : Kept padding add false true
  -- a padding row by itself, which is first and last
  pub of_lone_padding : Kept padding padding true true
  -- the report of the run
  pub report : report_of kept_run powers ≡ record { number = 0; pairs = 6; failing = 0; spot = Clean }
