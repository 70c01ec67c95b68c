-- "Worked pairs (marked * is proved, together)" (document 01): the facts that are marked, in their order, each beside
-- its sentence. Where a fact is one of the table and one of the rulebook, both are said.
use Rattle.std.specs.Prelude.{◌≡◌, true, List, [], ◌∷◌, ◌++◌, ℕ, ◌-◌, ◌^◌, replicate, get_or}
use Rattle.algebra.specs.Expr.{Expr, eval}
use Rattle.algebra.specs.Prime.{p}
use Rattle.residue.specs.Residues.{sub_p, mul_p, residues}
use Rattle.table.specs.Cells.{Cell, cells}
use Rattle.table.specs.CpuStark.{lv_ext_length, instruction, instruction_size}
use Rattle.table.specs.Table.{pair_values}
use Rattle.rulebook.specs.Rule.{keeps_all}
use Rattle.rulebook.specs.Kind.{kind_of}
use Rattle.rulebook.specs.Rulebook.{ext_length, size, rules_G}
use Rattle.pair_fold_checks.specs.PairFold.{pair_fold_accumulators}
use Rattle.stream_text.specs.PairLines.{line_of_pair}
use Rattle.stream_text.specs.Faults.{faults_of_pair}
use Rattle.stream_model.specs.Model.{output_of}
use Rattle.worked.specs.Rows.{powers, zeros, tload, end, encoded, mload, at_pc, one_zero_row}

-- what an expression of the table comes to on a row, and one of the rulebook, which goes by the kind of the row's
-- instruction
abbrev pub of_row : Expr Cell → List ℕ → ℕ
of_row e row = eval residues (cells [] row [] 0 0) e

abbrev pub by_kind : (ℕ → Expr Cell) → List ℕ → ℕ
by_kind e row = of_row (e (kind_of (cells [] row [] 0 0))) row

pub record Worked : Type 0 where
  -- "p−1 squared is 1."
  pub minus_one_squared : mul_p (p - 1) (p - 1) ≡ 1
  -- "2^32 squared is 4294967295."
  pub half_word_squared : mul_p (2 ^ 32) (2 ^ 32) ≡ 4294967295
  -- "0 − 1 is p−1."
  pub zero_minus_one : sub_p 0 1 ≡ p - 1
  -- "TLOAD lengths: OP0 1, OP1 7 give 7; 0, 7 give 1; 2, 3 give 5."
  pub tload_lengths :
      (of_row lv_ext_length (tload 1 7) ≡ 7)
      × (of_row lv_ext_length (tload 0 7) ≡ 1)
      × (of_row lv_ext_length (tload 2 3) ≡ 5)
  pub tload_lengths_ruled :
      (by_kind ext_length (tload 1 7) ≡ 7)
      × (by_kind ext_length (tload 0 7) ≡ 1)
      × (by_kind ext_length (tload 2 3) ≡ 5)
  -- "END length: entry 1 gives 0, entry 0 gives 1."
  pub end_lengths : (of_row lv_ext_length (end 1) ≡ 0) × (of_row lv_ext_length (end 0) ≡ 1)
  pub end_lengths_ruled : (by_kind ext_length (end 1) ≡ 0) × (by_kind ext_length (end 0) ≡ 1)
  -- "OP1_IMM 1, op0 r0, dst r0, OPCODE 0: INST 4616189622349725696.": what the table sums up; with that INST value 107
  -- is 0, and the row keeps the rules of G
  pub instruction_word : (inst : ℕ) → of_row instruction (encoded inst) ≡ 4616189622349725696
  pub instruction_word_value : get_or (pair_values powers (encoded 4616189622349725696) zeros 0 1) 106 0 ≡ 0
  pub instruction_word_ruled :
      let x = cells powers (encoded 4616189622349725696) zeros 0 1 in keeps_all x true true (rules_G x (kind_of x)) ≡ true
  -- "MLOAD size is 2 with OP1_IMM 0.": so that value 148 is 0 from PC 0 to PC 2
  pub mload_size : of_row instruction_size mload ≡ 2
  pub mload_size_ruled : by_kind size mload ≡ 2
  pub mload_value : get_or (pair_values powers mload (at_pc 2) 0 1) 147 0 ≡ 0
  -- "Masks 2^0..2^24, one zero row: value 104 is 1, 148 is p−1, others 0;": the last pair, so z_last is 0; whatever
  -- lagrange_basis_first is
  pub zero_row_values : (f : ℕ)
      → pair_values powers zeros zeros 0 f ≡ replicate 103 0 ++ (1 ∷ replicate 43 0) ++ ((p - 1) ∷ replicate 78 0)
  -- "rowdesk prints only "0 2 104".": these seven characters and a line end, in ASCII
  pub prints_one_zero_row : output_of line_of_pair one_zero_row ≡ 48 ∷ 32 ∷ 50 ∷ 32 ∷ 49 ∷ 48 ∷ 52 ∷ 10 ∷ []
  -- "That pair folds from 0 to 0 under alpha 0 and 1, and under 2 to 18446673700603314177."
  pub zero_row_folds :
      pair_fold_accumulators powers zeros zeros 0 1 (0 ∷ 1 ∷ 2 ∷ []) (0 ∷ 0 ∷ 0 ∷ []) ≡ 0 ∷ 0 ∷ 18446673700603314177 ∷ []

-- what faults prints of the same row: "0 104 1" and "0 148 -1", each with a line end, in ASCII (document 02, 1/12)
abbrev pub PrintsFaults : Type 0
PrintsFaults =
    output_of faults_of_pair one_zero_row
    ≡ 48 ∷ 32 ∷ 49 ∷ 48 ∷ 52 ∷ 32 ∷ 49 ∷ 10 ∷ 48 ∷ 32 ∷ 49 ∷ 52 ∷ 56 ∷ 32 ∷ 45 ∷ 49 ∷ 10 ∷ []
