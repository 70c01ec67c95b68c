-- Every step leads from a sound state to a sound state, and there are not many.
use mathlib.Core.Path.{◌≡◌, refl, sym, subst}
use mathlib.Core.Bool.{cond, false≢true}
use mathlib.Core.List.{List}
use Prim.Native.Nat.{ℕ, ◌-◌, ◌<◌}
use native.Mathlib.Omega.{arith}
use borrow.Author.Tests.{leb-false, eqb-true}
use lib.ListN.{length}
use lib.Dec.{eqb, leb}
use Rattle.refusals.specs.Refusal.{row_contents}
use Rattle.table.specs.Rows.{Row}
use Rattle.table.proofs.Zero.{zeros-below, zero_row}
use Rattle.checks.proofs.Laws.{accepted-row}
use Rattle.stream_model.specs.Model.{PairText, blank, ended, accept_of, row_of, end_of, Stepped, Gives}
use Rattle.stream_model.specs.Sound.{Sound, Onward}
use Rattle.stream_model.specs.declared.State.{State}
use Rattle.stream_model.proofs.Laws.{by_cases}

-- a state that ends is as sound as it was
pub stops : (k : ℕ) (old s : State) → Sound s → Onward k old (ended s)
stops n old s k = record {
  sound = record { masks = k.masks; first = k.first; previous = k.previous; few = k.few };
  rows = λ e. absurd (false≢true e);
}

module _ (text : PairText) (s : State) (k : Sound s) where
  abbrev Leads : Stepped → Type 0
  Leads t = Onward 1 s t.state

  accept_leads : (row : List ℕ) → Row row → s.rows < 65536 → Leads (accept_of text s row)
  unfolding accept_of
  accept_leads row r few =
      by_cases Leads (eqb s.rows 0)
      (λ e. record {
        sound = record { masks = k.masks; first = r; previous = r; few = omega arith };
        rows = λ _. let z = eqb-true s.rows 0 e in omega arith;
      })
      (λ e. record { sound = record { masks = k.masks; first = k.first; previous = r; few = omega arith }; rows = λ _. refl })

  row_leads : (row : List ℕ) → length row ≡ 94 → Leads (row_of text s row)
  unfolding row_of
  row_leads row l =
      by_cases Leads (leb 65536 s.rows) (λ _. stops 1 s s k)
      (λ few. by_cases Leads (row_contents row).holds (λ _. stops 1 s s k) (λ e. accept_leads row (accepted-row row l e) (leb-false _ _ few)))

  end_leads : Leads (end_of text s)
  unfolding end_of
  end_leads = by_cases Leads (eqb s.rows 0) (λ _. stops 1 s s k) (λ _. stops 1 s s k)

  -- a step that ends the input, and one that takes a row
  pub end_onward : {r : State} {old new : List ℕ} → Gives (end_of text s) r old new → Onward 1 s r
  end_onward g = subst (Onward 1 s) (sym g.state_is) end_leads

  pub row_onward : (row : List ℕ) → length row ≡ 94 → {r : State} {old new : List ℕ} → Gives (row_of text s row) r old new
      → Onward 1 s r
  row_onward row l g = subst (Onward 1 s) (sym g.state_is) (row_leads row l)

-- the state before the masks
pub blank-sound : Sound blank
blank-sound = record {
  masks = record { size = refl; below = zeros-below 25 };
  first = zero_row;
  previous = zero_row;
  few = omega arith;
}

-- how many steps may follow
abbrev pub left : State → ℕ
left s = cond s.running (65537 - s.rows) 0
