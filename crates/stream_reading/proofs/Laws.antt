-- How the program's functions come nearer to the end.
use mathlib.Core.Path.{◌≡◌, refl, sym, ap, ◌∙◌}
use mathlib.Core.Bool.{Bool, true, false, cond, false≢true}
use mathlib.Core.List.{List}
use Prim.Native.Nat.{ℕ, ◌+◌, ◌-◌, ◌*◌, ◌/◌, ◌%◌, ◌≤◌, ◌<◌}
use native.Mathlib.Omega.{arith}
use lib.ListN.{length}
use Rattle.stream_model.specs.Sound.{Sound, Onward}
use Rattle.stream_model.specs.declared.State.{State}
use Rattle.stream_model.proofs.Laws.{by_cases}
use Rattle.stream_reading.specs.Turns.{Kept, Nearer}

pub kept-ended : {t r : State} → Kept t r → t.running ≡ false → r.running ≡ false
kept-ended {t} {r} p e = go r.running refl
  where
    go : (b : Bool) → r.running ≡ b → r.running ≡ false
    go true h = absurd (false≢true (sym e ∙ ap (λ (x : State). x.running) (sym (p h)) ∙ h))
    go false h = h

-- where the rows before the rest of a block are fed
pub record FedBefore (s : State) (bytes rest : List ℕ) (state : State) : Type 0 where
  pub within : length rest ≤ length bytes
  pub whole : (length bytes - length rest) % 752 ≡ 0
  pub onward : Onward ((length bytes - length rest) / 752) s state

-- how many bytes may follow
abbrev pub left : State → ℕ → ℕ
left s read = cond s.running (752 * 65537 - (752 * s.rows + read % 752)) 0

pub left_less : (old new : State) (read next : ℕ) → Sound old → Sound new → old.running ≡ true → Nearer old read new next
    → left new next < left old read
left_less old new read next k m e n =
    let b : read % 752 < 752 = omega arith in
    rw e
    (by_cases (λ (i : ℕ). i < 752 * 65537 - (752 * old.rows + read % 752)) new.running
    (λ r. let h = n r in omega (arith, k.few, m.few)) (λ _. omega (arith, k.few)))
