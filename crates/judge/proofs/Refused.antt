-- What the verdict of the judge tells: the number of the refusal, and 1 exactly if the call is not turned back and every rule is kept.
use mathlib.Core.Path.{◌≡◌}
use mathlib.Core.Bool.{Bool, cond, ◌&&◌}
use mathlib.Core.List.{List, [], ◌∷◌, ◌++◌}
use Prim.Native.Nat.{ℕ}
use lib.Dec.{eqb}
use Rattle.refusals.specs.Refusal.{number_of, sizes, contents, flags_not_plain}
use Rattle.refusals.proofs.Laws.{number_of-unless}
use Rattle.rulebook.specs.Plain.{pair_plain, pair_keeps}
use Rattle.answers.specs.Verdict.{keeps_of, judged}
use Rattle.answers.proofs.Laws.{keeps_of-unless}
use Rattle.judge.specs.Verdict.{judge_refusal, verdict_of}

pub number_is : (masks lv nv : List ℕ) (first last : Bool) → number_of (verdict_of masks lv nv first last) ≡ judge_refusal masks lv nv
unfolding verdict_of judge_refusal
number_is masks lv nv first last =
    number_of-unless (judged (pair_keeps masks lv nv first last)) (sizes masks lv nv ++ contents masks lv nv ++ (flags_not_plain (pair_plain lv nv) ∷ [])) tt

pub keeps_of-is : (masks lv nv : List ℕ) (first last : Bool) →
    keeps_of (verdict_of masks lv nv first last) ≡ cond (eqb (judge_refusal masks lv nv) 0 && pair_keeps masks lv nv first last) 1 0
unfolding verdict_of
keeps_of-is masks lv nv first last = keeps_of-unless (judge_refusal masks lv nv) (pair_keeps masks lv nv first last)
