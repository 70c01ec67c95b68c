-- What the judge of a pair answers.
use Rattle.std.specs.Prelude.{Bool, List, [], ◌∷◌, ◌++◌, ℕ, Result, Ok}
use Rattle.answers.specs.declared.Verdict.{Verdict}
use Rattle.answers.specs.Verdict.{judged}
use Rattle.refusals.specs.Refusal.{lowest, unless, sizes, contents, flags_not_plain, refused}
use Rattle.refusals.specs.declared.Refusal.{Refusal}
use Rattle.rulebook.specs.Plain.{pair_keeps, pair_plain}

-- the number with which the call is turned back, or 0: masks, current row, next row
unfoldable pub judge_refusal : List ℕ → List ℕ → List ℕ → ℕ
judge_refusal masks lv nv = lowest (sizes masks lv nv ++ contents masks lv nv ++ (flags_not_plain (pair_plain lv nv) ∷ []))

-- "The judge answers "keeps" exactly if the pair keeps every rule for such a row, else "breaks"."
unfoldable pub verdict_of : List ℕ → List ℕ → List ℕ → Bool → Bool → Result Verdict Refusal
verdict_of masks lv nv first last = unless (judge_refusal masks lv nv) refused (Ok (judged (pair_keeps masks lv nv first last)))
