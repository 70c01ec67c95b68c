-- The steps of the model, one after the other: their number is no limit.
use mathlib.Core.Path.{◌≡◌, refl, sym, ap, ◌∙◌}
use mathlib.Core.Bool.{Bool, true, false}
use mathlib.Core.List.{List, [], ◌∷◌, ◌++◌}
use Prim.Native.Nat.{ℕ, zero, suc, ◌-◌, ◌<◌}
use native.Mathlib.Omega.{arith}
use borrow.Author.Tests.{ne_eqb}
use lib.ListN.{length, take, drop, length-drop}
use lib.Dec.{eqb}
use Rattle.stream_model.specs.Model.{PairText, Stepped, feed_of, end_of, steps_of, rows_of}
use Rattle.stream_model.specs.declared.State.{State}
use Rattle.stream_model.proofs.Laws.{by_cases}

module _ (text : PairText) where
  -- a state that has ended prints nothing more
  pub ended_steps : (k : ℕ) (s : State) (input : List ℕ) → s.running ≡ false → steps_of text k s input ≡ []
  unfolding steps_of
  ended_steps zero s input e = refl
  ended_steps (suc k) s input e = rw e

  -- the end of the input ends it, and so does a part of a row
  abbrev Ends : Stepped → Type 0
  Ends t = t.state.running ≡ false

  pub short_ends : (s : State) (bytes : List ℕ) → length bytes < 752 → (feed_of text s bytes).state.running ≡ false
  unfolding feed_of end_of
  short_ends s bytes h =
      let n : eqb (length bytes) 752 ≡ false = ne_eqb (length bytes) 752 (λ e. omega arith) in
      rw n (by_cases Ends (eqb (length bytes) 0) (λ _. by_cases Ends (eqb s.rows 0) (λ _. refl) (λ _. refl)) (λ _. refl))

  -- with more steps than bytes, their number does not matter
  module _ (s : State) where
    after_none : (k m : ℕ) → steps_of text k (feed_of text s []).state [] ≡ steps_of text m (feed_of text s []).state []
    after_none k m = ended_steps k _ [] (short_ends s [] (omega arith)) ∙ sym (ended_steps m _ [] (short_ends s [] (omega arith)))

  enough : (k m : ℕ) (s : State) (input : List ℕ) → length input < k → length input < m → steps_of text k s input ≡ steps_of text m s input
  unfolding steps_of
  enough zero m s input h q = absurd (omega arith)
  enough (suc k) zero s input h q = absurd (omega arith)
  enough (suc k) (suc m) s [] h q = ap (λ (l : List ℕ). elim s.running [ true ↦ (feed_of text s []).text ++ l | false ↦ [] ]) (after_none s k m)
  enough (suc k) (suc m) s (x ∷ xs) h q =
      let d : length (drop 752 (x ∷ xs)) ≡ length (x ∷ xs) - 752 = length-drop 752 (x ∷ xs) in
      ap (λ (l : List ℕ). elim s.running [ true ↦ (feed_of text s (take 752 (x ∷ xs))).text ++ l | false ↦ [] ])
      (enough k m (feed_of text s (take 752 (x ∷ xs))).state (drop 752 (x ∷ xs)) (omega arith) (omega arith))

  -- all steps are one step, then all steps of what is left
  rest_enough : (s : State) (input : List ℕ)
      → steps_of text (length input) (feed_of text s (take 752 input)).state (drop 752 input)
      ≡ rows_of text (feed_of text s (take 752 input)).state (drop 752 input)
  rest_enough s [] = after_none s 0 1
  rest_enough s (x ∷ xs) =
      let d : length (drop 752 (x ∷ xs)) ≡ length (x ∷ xs) - 752 = length-drop 752 (x ∷ xs) in
      enough (length (x ∷ xs)) (suc (length (drop 752 (x ∷ xs)))) (feed_of text s (take 752 (x ∷ xs))).state (drop 752 (x ∷ xs))
      (omega arith) (omega arith)

  pub rows_step : (s : State) (input : List ℕ) → s.running ≡ true
      → rows_of text s input ≡ (feed_of text s (take 752 input)).text ++ rows_of text (feed_of text s (take 752 input)).state (drop 752 input)
  unfolding steps_of
  rows_step s input e =
      let x = (feed_of text s (take 752 input)).text in
      ap (λ (t : Bool). elim t [ true ↦ x ++ steps_of text (length input) (feed_of text s (take 752 input)).state (drop 752 input) | false ↦ [] ]) e
      ∙ ap (λ (l : List ℕ). x ++ l) (rest_enough s input)
