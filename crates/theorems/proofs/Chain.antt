-- One chain: the judge's answer, the rulebook, the values. For accepted masks, canonical rows with plain flags and canonical weights the
-- judge says "keeps", for a row that is first and last as the weights tell, exactly if the values entry writes 226 zeros
-- (`judged_iff_zeros`).
use mathlib.Core.Path.{◌≡◌, refl, sym, ap, ◌∙◌}
use mathlib.Core.Logic.{◌↔◌}
use mathlib.Core.Bool.{Bool, true, false, true≢false}
use mathlib.Core.List.{List, [], ◌∷◌, ◌++◌}
use Prim.Native.Nat.{ℕ, zero, suc, ◌≤◌}
use native.Mathlib.Omega.{arith}
use lib.ListN.{length, drop, take, replicate, length-replicate}
use lib.Seq.{take_at}
use borrow.Author.Tests.{lt-ltb, le-ltb, eq-eqb}
use Rattle.algebra.specs.Lists.{All}
use Rattle.refusals.specs.declared.Refusal.{Refusal}
use Rattle.refusals.specs.Refusal.{canonical, unless, refused}
use Rattle.table.specs.Table.{pair_values}
use Rattle.pair_checks.specs.PairValues.{pair_values_refusal, pair_values_buffer}
use Rattle.rulebook.specs.Plain.{is_first, is_last, pair_keeps}
use Rattle.theorems.specs.Demand3.{Given}
use Rattle.rulebook.proofs.Pair.{values_count}
use Rattle.theorems.proofs.Demand3.{canonical_of, keeps_iff_zeros}
use Rattle.answers.specs.declared.Verdict.TheVariants.{Keeps}
use Rattle.answers.specs.declared.Verdict.{Verdict}
use Rattle.answers.specs.Verdict.{keeps_of, judged}
use Rattle.std.specs.Prelude.{Result, Ok}
use Rattle.judge.specs.Verdict.{judge_refusal, verdict_of}

-- zeros, listed
pub zeros-are : (n : ℕ) (vs : List ℕ) → length vs ≡ n → All (λ v. v ≡ 0) vs → vs ≡ replicate n 0
zeros-are zero [] e h = refl
zeros-are zero (v ∷ vs) e h = absurd (omega arith)
zeros-are (suc n) [] e h = absurd (omega arith)
zeros-are (suc n) (v ∷ vs) e h = rw h.0 (ap (λ (l : List ℕ). 0 ∷ l) (zeros-are n vs (omega arith) h.1))

all_zeros : (n : ℕ) {vs : List ℕ} → vs ≡ replicate n 0 → All (λ (v : ℕ). v ≡ 0) vs
all_zeros n e = rw e (zeros n)
  where
    zeros : (n : ℕ) → All (λ (v : ℕ). v ≡ 0) (replicate n 0)
    zeros zero = tt
    zeros (suc n) = (refl, zeros n)

-- the verdict "keeps"
keeps-is : (b : Bool) → b ≡ true → ◌≡◌ {A = Result Verdict Refusal} (Ok (judged b)) (Ok Keeps)
keeps-is true h = refl
keeps-is false h = absurd (true≢false (sym h))

is-keeps : (b : Bool) → ◌≡◌ {A = Result Verdict Refusal} (Ok (judged b)) (Ok Keeps) → b ≡ true
is-keeps true e = refl
is-keeps false e = absurd (let z : ◌≡◌ {A = ℕ} 0 1 = ap keeps_of e in omega arith)

module _ (masks lv nv : List ℕ) (z f : ℕ) (given : Given masks lv nv z f) where
  not_refused : judge_refusal masks lv nv ≡ 0
  unfolding judge_refusal
  not_refused =
      let a = given.accepted in
      simp (
        given.row.size,
        given.next_row.size,
        a.size,
        canonical_of lv given.row.below,
        canonical_of nv given.next_row.below,
        a.below,
        a.differ,
        given.plain,
      )

  answered : verdict_of masks lv nv (is_first f) (is_last z) ≡ Ok (judged (pair_keeps masks lv nv (is_first f) (is_last z)))
  unfolding verdict_of
  answered = ap (λ (n : ℕ). unless n refused (Ok (judged (pair_keeps masks lv nv (is_first f) (is_last z))))) not_refused

  module _ (out : List ℕ) (room : 226 ≤ length out) where
    accepted-values : pair_values_refusal masks lv nv z f (length out) ≡ 0
    unfolding pair_values_refusal canonical
    accepted-values =
        let a = given.accepted in
        simp (
          given.row.size,
          given.next_row.size,
          a.size,
          canonical_of lv given.row.below,
          canonical_of nv given.next_row.below,
          a.below,
          a.differ,
          le-ltb _ _ room,
          lt-ltb _ _ given.z_below,
          lt-ltb _ _ given.f_below,
        )

    written : pair_values_buffer masks lv nv z f out ≡ pair_values masks lv nv z f ++ drop 226 out
    unfolding pair_values_buffer
    written = simp (eq-eqb _ _ accepted-values)

    zeros_of_keeps : verdict_of masks lv nv (is_first f) (is_last z) ≡ Ok Keeps → pair_values_buffer masks lv nv z f out ≡ replicate 226 0 ++ drop 226 out
    zeros_of_keeps e =
        written
        ∙ ap (λ (vs : List ℕ). vs ++ drop 226 out) (zeros-are 226 (pair_values masks lv nv z f) (values_count masks lv nv z f)
        ((keeps_iff_zeros masks lv nv z f given).0 (is-keeps (pair_keeps masks lv nv (is_first f) (is_last z)) (sym answered ∙ e))))

    keeps_of-zeros : pair_values_buffer masks lv nv z f out ≡ replicate 226 0 ++ drop 226 out → verdict_of masks lv nv (is_first f) (is_last z) ≡ Ok Keeps
    keeps_of-zeros e =
        answered
        ∙ keeps-is (pair_keeps masks lv nv (is_first f) (is_last z))
        ((keeps_iff_zeros masks lv nv z f given).1
        (all_zeros 226 (sym (take_at (pair_values masks lv nv z f) (drop 226 out) 226 (values_count masks lv nv z f)) ∙ ap (take 226) (sym written ∙ e) ∙ take_at (replicate 226 0) (drop 226 out) 226 (length-replicate {A = ℕ} 226 0))))

    pub judged_iff_zeros : (verdict_of masks lv nv (is_first f) (is_last z) ≡ Ok Keeps) ↔ (pair_values_buffer masks lv nv z f out ≡ replicate 226 0 ++ drop 226 out)
    judged_iff_zeros = (zeros_of_keeps, keeps_of-zeros)
