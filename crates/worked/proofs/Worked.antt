-- The facts that document 01 marks among its worked pairs, as one theorem: `worked`, at the end. All are computed.
use mathlib.Core.Path.{◌≡◌, refl, ap, ◌∙◌}
use mathlib.Core.List.{List, [], ◌∷◌, ◌++◌}
use Prim.Native.Nat.{ℕ, ◌-◌}
use native.Mathlib.Nat.{zero-mul}
use lib.ListN.{replicate}
use Rattle.algebra.specs.Expr.{eval}
use Rattle.algebra.specs.Fold.{fold}
use Rattle.algebra.specs.Prime.{p}
use Rattle.refusals.specs.Refusal.{canonical, distinct}
use Rattle.residue.specs.Residues.{add_p, neg_p, sub_p, mul_p}
use Rattle.table.specs.Entry.{plus_all, values}
use Rattle.table.specs.CpuStark.{lv_ext_length, plus_shifted, instruction, instruction_size}
use Rattle.table.specs.Table.{pair_values}
use Rattle.tally.specs.Tally.{nonzeros, first_from}
use Rattle.rulebook.specs.Rule.{holds, keeps_sentence, keeps_all}
use Rattle.rulebook.specs.Kind.{first_one, kind_of}
use Rattle.rulebook.specs.Rulebook.{rules_G}
use Rattle.rulebook.proofs.Open.{open_table}
use Rattle.accumulators.specs.Accumulated.{folds}
use Rattle.pair_fold_checks.specs.PairFold.{pair_fold_refusal, pair_fold_accumulators}
use Rattle.run_pairs.specs.Run.{row_at, pair_at, tabulate, pairs_of, run_refusal}
use Rattle.words.specs.Words.{words, little_endian}
use Rattle.text.specs.Decimal.{decimal_of, digits_of}
use Rattle.field_signed.specs.Signed.{signed_of}
use Rattle.stream_text.specs.Lines.{line_of}
use Rattle.stream_text.specs.PairLines.{line_of_pair}
use Rattle.stream_text.specs.Faults.{pair_faults, fault_line, faults_text, faults_of_pair}
use Rattle.stream_model.specs.Model.{PairText, output_of, texts_from, masks_in, run_in}
use Rattle.stream_model.proofs.Printed.{prints_texts}
use Rattle.worked.specs.Rows.{powers, zeros, one_zero_row}
use Rattle.worked.specs.Worked.{Worked, PrintsFaults}

zero_row_values : (f : ℕ)
    → pair_values powers zeros zeros 0 f ≡ replicate 103 0 ++ (1 ∷ replicate 43 0) ++ ((p - 1) ∷ replicate 78 0)
unfolding pair_values values eval add_p neg_p mul_p open_table
zero_row_values f = simp (zero-mul f)

pairs-are : pairs_of (run_in 1 one_zero_row) (masks_in one_zero_row) ≡ pair_values powers zeros zeros 0 1 ∷ []
unfolding words little_endian pairs_of tabulate pair_at row_at
pairs-are = refl

-- whatever a program prints of a pair, it prints that of the one pair
prints-pair : (text : PairText)
    → output_of text one_zero_row ≡ text 0 (replicate 103 0 ++ (1 ∷ replicate 43 0) ++ ((p - 1) ∷ replicate 78 0)) ++ []
unfolding run_refusal canonical distinct words little_endian texts_from
prints-pair text =
    prints_texts text one_zero_row 1 refl refl
    ∙ ap (texts_from text 0) (pairs-are ∙ ap (λ (vs : List ℕ). vs ∷ []) (zero_row_values 1))

prints_one_zero_row : output_of line_of_pair one_zero_row ≡ 48 ∷ 32 ∷ 50 ∷ 32 ∷ 49 ∷ 48 ∷ 52 ∷ 10 ∷ []
unfolding nonzeros first_from line_of decimal_of digits_of
prints_one_zero_row = prints-pair line_of_pair

pub prints_faults : PrintsFaults
unfolding pair_faults faults_text fault_line signed_of decimal_of digits_of
prints_faults = prints-pair faults_of_pair

pub worked : Worked
unfolding pair_fold_accumulators pair_fold_refusal canonical distinct folds fold pair_values values eval add_p neg_p sub_p mul_p open_table lv_ext_length
    instruction plus_shifted plus_all instruction_size kind_of first_one rules_G keeps_all keeps_sentence holds
worked =
    record {
      minus_one_squared = refl;
      half_word_squared = refl;
      zero_minus_one = refl;
      tload_lengths = (refl, refl, refl);
      tload_lengths_ruled = (refl, refl, refl);
      end_lengths = (refl, refl);
      end_lengths_ruled = (refl, refl);
      instruction_word = λ inst. refl;
      instruction_word_value = refl;
      instruction_word_ruled = refl;
      mload_size = refl;
      mload_size_ruled = refl;
      mload_value = refl;
      zero_row_values = zero_row_values;
      prints_one_zero_row = prints_one_zero_row;
      zero_row_folds = refl;
    }
