-- `replay::agrees` meets its contract.
use mathlib.Core.Path.{◌≡◌, refl, sym, ◌∙◌}
use mathlib.Core.Bool.{true}
use Rattle.std.proofs.Common.{Result, Ok, Err}
use Rattle.std.proofs.lemmas.Bool.Decides.{Decides-eqb}
use Rattle.std.proofs.lemmas.Slice.Eq.{slice_eq-Decides}
use Rattle.std.specs.Result.{is_ok}
use Rattle.refusals.specs.Refusal.{number_of}
use Rattle.refusals.specs.declared.Refusal.{Refusal}
use Rattle.pair_checks.proofs.Laws.{values_written}
use Rattle.replay.specs.Record.{Agrees}
use Rattle.replay.proofs.agrees.Goals as goal

number_of-ok : {A : Type 0} (answer : Result A Refusal) → true ≡ is_ok answer → number_of answer ≡ 0
number_of-ok (Ok _) e = refl
number_of-ok (Err _) e = cc

pub returns-then-is_ok : goal.returns-then-is_ok
unfolding Agrees
returns-then-is_ok c = λ t.
    let n = number_of-ok c.pair_values-answer.result c.if-is_ok.ensures.value in
    sym (values_written _ _ _ _ _ _ refl (sym c.pair_values-answer.ensures.number ∙ n))
    ∙ sym c.pair_values-answer.ensures.buffer
    ∙ (slice_eq-Decides Decides-eqb _ _ _ c.eq.ensures).0 t
