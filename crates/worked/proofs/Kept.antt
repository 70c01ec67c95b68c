-- The pairs of the kept run: that they keep every rule and that the run's report is clean is computed, the one from the
-- rulebook and the other from the table; what holds under all weights and alphas follows by demand 3.
use mathlib.Core.Path.{◌≡◌, refl, ap₂, ◌∙◌}
use mathlib.Core.Bool.{Bool, true, false}
use mathlib.Core.List.{List}
use Prim.Native.Nat.{ℕ}
use lib.ListN.{length}
use Rattle.algebra.specs.Expr.{eval}
use Rattle.refusals.specs.Refusal.{canonical, distinct}
use Rattle.refusals.proofs.Laws.{canonical-below}
use Rattle.residue.specs.Residues.{add_p, neg_p, mul_p}
use Rattle.table.specs.Columns.{NUM-CPU-COLS}
use Rattle.table.specs.Entry.{plus_all, values}
use Rattle.table.specs.Rows.{Row}
use Rattle.table.specs.Table.{pair_values}
use Rattle.tally.specs.Tally.{nonzeros, first_from}
use Rattle.rulebook.specs.Rule.{holds, keeps_sentence, keeps_all}
use Rattle.rulebook.specs.Kind.{ones, first_one, kind_of}
use Rattle.rulebook.specs.Rulebook.{rules_A, rules_B, rules_C, rules_D, rules_E, rules_F, rules_G, rules_H, rules_I, rules_J, rules_K, rules_L, rules_M, rules_N, rulebook, keeps}
use Rattle.rulebook.specs.Plain.{Accepted, bits, plain_flags, pair_keeps, pair_plain}
use Rattle.rulebook.proofs.Open.{open_table}
use Rattle.rulebook.proofs.Pair.{values_count}
use Rattle.run_pairs.specs.Run.{row_at, pair_at, tabulate, pairs_of, run_refusal}
use Rattle.answers.specs.declared.Spot.TheVariants.{Clean}
use Rattle.runs.specs.Report.{failing, spot_from, report_of}
use Rattle.theorems.specs.Demand3.{Given, KeepsEveryRule}
use Rattle.theorems.proofs.Demand3.{keeps_iff_zeros, demand_3}
use Rattle.theorems.proofs.Chain.{zeros-are}
use Rattle.worked.specs.Rows.{powers}
use Rattle.worked.specs.Kept.{add, tstore, tstore_ext, end_entry, padding, kept_run, Weights, Kept, KeptPairs}

powers-accepted : Accepted powers
unfolding canonical distinct
powers-accepted = record { size = refl; below = refl; differ = refl }

-- whether a pair has all that Kept asks, as tests
abbrev Passes : List ℕ → List ℕ → Bool → Bool → Type 0
Passes lv nv first last = (pair_plain lv nv ≡ true) × (pair_keeps powers lv nv first last ≡ true)

kept : (lv nv : List ℕ) (first last : Bool) → Row lv → Row nv → Passes lv nv first last → Kept lv nv first last
kept lv nv first last row next_row passes =
    record {
      accepted = powers-accepted;
      row = row;
      next_row = next_row;
      plain = passes.0;
      keeps = passes.1;
      values = λ z f w.
          zeros-are 226 (pair_values powers lv nv z f) (values_count powers lv nv z f)
          ((keeps_iff_zeros powers lv nv z f (given z f w)).0 (kept_at z f w));
      folds = λ z f w.
          let d = demand_3 powers lv nv z f (given z f w) in
          d.under_all (d.exactly_when.0 (kept_at z f w));
    }
  where
    given : (z f : ℕ) → Weights first last z f → Given powers lv nv z f
    given z f w =
        record {
          accepted = powers-accepted;
          z_below = w.z_below;
          f_below = w.f_below;
          row = row;
          next_row = next_row;
          plain = passes.0;
        }

    kept_at : (z f : ℕ) → Weights first last z f → KeepsEveryRule powers lv nv z f
    kept_at z f w = ap₂ (pair_keeps powers lv nv) w.first_told w.last_told ∙ passes.1

-- rows of 94 canonical numbers
row_of : (row : List ℕ) → length row ≡ NUM-CPU-COLS → canonical row ≡ true → Row row
row_of row size below = record { size = size; below = canonical-below row below }

add_row : Row add
unfolding canonical
add_row = row_of add refl refl

tstore-row : Row tstore
unfolding canonical
tstore-row = row_of tstore refl refl

tstore_ext-row : Row tstore_ext
unfolding canonical
tstore_ext-row = row_of tstore_ext refl refl

end_row : Row end_entry
unfolding canonical
end_row = row_of end_entry refl refl

padding-row : Row padding
unfolding canonical
padding-row = row_of padding refl refl

-- the report, computed from the values of the run's pairs
clean : report_of kept_run powers ≡ record { number = 0; pairs = 6; failing = 0; spot = Clean }
unfolding report_of run_refusal canonical distinct failing spot_from nonzeros first_from pairs_of tabulate pair_at row_at pair_values values eval add_p neg_p
    mul_p open_table
clean = refl

pub kept-pairs : KeptPairs
unfolding pair_plain plain_flags bits pair_keeps keeps rulebook rules_A rules_B rules_C rules_D rules_E rules_F rules_G rules_H rules_I rules_J rules_K
    rules_L rules_M rules_N kind_of first_one ones holds keeps_sentence keeps_all eval add_p neg_p mul_p plus_all
kept-pairs =
    record {
      of_add = kept add tstore true false add_row tstore-row (refl, refl);
      of_tstore = kept tstore tstore_ext false false tstore-row tstore_ext-row (refl, refl);
      of_tstore_ext = kept tstore_ext end_entry false false tstore_ext-row end_row (refl, refl);
      of_end = kept end_entry padding false false end_row padding-row (refl, refl);
      of_padding = kept padding padding false false padding-row padding-row (refl, refl);
      of_last_padding = kept padding add false true padding-row add_row (refl, refl);
      of_lone_padding = kept padding padding true true padding-row padding-row (refl, refl);
      report = clean;
    }
