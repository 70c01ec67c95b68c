-- What the entries answer on the rows of the worked pairs.
use mathlib.Core.Path.{◌≡◌, refl, sym, ap, ◌∙◌}
use mathlib.Core.List.{List, [], ◌∷◌, ◌++◌, append-nil}
use Prim.Native.Nat.{ℕ, ◌-◌, ◌<◌}
use native.Mathlib.Omega.{arith}
use lib.ListN.{replicate, get_or}
use Rattle.algebra.specs.Prime.{p}
use Rattle.std.specs.Prelude.{Result, Ok, Err}
use Rattle.refusals.specs.Refusal.{canonical, distinct, number, number_of, refusal}
use Rattle.refusals.specs.declared.Refusal.{Refusal}
use Rattle.refusals.specs.declared.Refusal.TheVariants.{RowLength}
use Rattle.refusals.proofs.Laws.{refusal-number, number_positive}
use Rattle.table.specs.Table.{pair_values}
use Rattle.tally.specs.Tally.{nonzeros, first_from}
use Rattle.pair_checks.specs.PairValues.{pair_values_refusal, pair_values_buffer}
use Rattle.run_pairs.specs.Run.{row_at, pair_at, tabulate, pairs_of, run_refusal}
use Rattle.runs.specs.Report.{failing, spot_from, zero_report, reported, report_of}
use Rattle.answers.specs.Report.{Report, told}
use Rattle.answers.specs.declared.Report.{Report as Found}
use Rattle.answers.specs.declared.Spot.TheVariants.{At}
use Rattle.worked.specs.Rows.{powers, zeros, encoded, mload, at_pc}
use Rattle.worked.proofs.Worked.{worked}

-- a buffer of 226 zeros after the call
abbrev written : List ℕ → List ℕ → List ℕ
written lv nv = pair_values_buffer powers lv nv 0 1 (replicate 226 0)

pub zero-row_written : written zeros zeros ≡ replicate 103 0 ++ (1 ∷ replicate 43 0) ++ ((p - 1) ∷ replicate 78 0)
unfolding pair_values_buffer pair_values_refusal canonical distinct
zero-row_written = ap (λ (vs : List ℕ). vs ++ []) (worked.zero_row_values 1)

pub instruction_word_written : get_or (written (encoded 4616189622349725696) zeros) 106 0 ≡ 0
unfolding pair_values_buffer pair_values_refusal canonical distinct
instruction_word_written = ap (λ (vs : List ℕ). get_or vs 106 0) (append-nil (pair_values powers (encoded 4616189622349725696) zeros 0 1))
    ∙ worked.instruction_word_value

pub mload_written : get_or (written mload (at_pc 2)) 147 0 ≡ 0
unfolding pair_values_buffer pair_values_refusal canonical distinct
mload_written = ap (λ (vs : List ℕ). get_or vs 147 0) (append-nil (pair_values powers mload (at_pc 2) 0 1)) ∙ worked.mload_value

-- the report of a run of no rows, and of one zero row
pub no_rows : report_of [] powers ≡ zero_report 1
unfolding report_of run_refusal
no_rows = refl

pub one-row : report_of zeros powers ≡ record { number = 0; pairs = 1; failing = 1; spot = At 0 104 }
unfolding report_of run_refusal canonical distinct failing spot_from nonzeros first_from pairs_of tabulate pair_at row_at
one-row = ap (λ (vs : List ℕ). reported (vs ∷ [])) (worked.zero_row_values 1)

-- an answer goes by its number
pub told_by_number : {A : Type 0} (r : Result A Refusal) → 0 < number_of r → r ≡ Err (refusal (number_of r))
told_by_number (Ok v) h = absurd (omega arith)
told_by_number (Err e) h = ap Err (sym (refusal-number e))

-- a report goes by what it tells
told_refused : (r : Result Found Refusal) → told r ≡ zero_report 1 → r ≡ Err RowLength
told_refused (Ok f) e = absurd (let n : ◌≡◌ {A = ℕ} 0 1 = ap (λ (t : Report). t.number) e in omega arith)
told_refused (Err q) e = ap Err (sym (refusal-number q) ∙ ap (λ (t : Report). refusal t.number) e)

told_found : (r : Result Found Refusal) (t : Report) → told r ≡ t → t.number ≡ 0
    → r ≡ Ok (record { pairs = t.pairs; failing = t.failing; spot = t.spot })
told_found (Ok f) t e z = ap (λ (t : Report). Ok (record { pairs = t.pairs; failing = t.failing; spot = t.spot })) e
told_found (Err q) t e z =
    absurd (let n : number q ≡ 0 = ap (λ (t : Report). t.number) e ∙ z in omega (arith, number_positive q))

pub none_told : (r : Result Found Refusal) → told r ≡ report_of [] powers → r ≡ Err RowLength
none_told r e = told_refused r (e ∙ no_rows)

pub one_told : (r : Result Found Refusal) → told r ≡ report_of zeros powers → r ≡ Ok (record { pairs = 1; failing = 1; spot = At 0 104 })
one_told r e = told_found r _ (e ∙ one-row) refl

pub ruleset told_reports = (none_told, one_told)
