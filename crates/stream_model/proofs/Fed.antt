-- Laws of rows that are fed one after the other.
use mathlib.Core.Path.{◌≡◌, refl, sym, ap, ap₂, ◌∙◌}
use mathlib.Core.Bool.{Bool, true, false, cond}
use mathlib.Core.List.{List, ◌++◌, append_assoc, append-nil}
use Prim.Native.Nat.{ℕ, zero, suc, ◌+◌, ◌*◌}
use native.Mathlib.Numerals.{add-one}
use native.Mathlib.Nat.{add-zero, add-suc}
use native.Mathlib.Omega.{arith}
use lib.ListN.{take, drop}
use lib.Seq.{drop-drop}
use Rattle.stream_model.specs.Model.{PairText, Stepped, feed_of, Gives}
use Rattle.stream_model.specs.Sound.{Sound, Onward}
use Rattle.stream_model.specs.declared.State.{State}
use Rattle.stream_model.specs.Rows.{then_fed, fed_rows}
use Rattle.stream_model.proofs.Laws.{behind}

module _ (text : PairText) where
  module _ (t : Stepped) (bytes : List ℕ) where
    abbrev more : Stepped
    more = record { state = (feed_of text t.state bytes).state; text = t.text ++ (feed_of text t.state bytes).text }

    pub then_running : t.state.running ≡ true → then_fed text t bytes ≡ more
    unfolding then_fed
    then_running e = ap (λ (b : Bool). cond b more t) e

    pub then_ended : t.state.running ≡ false → then_fed text t bytes ≡ t
    unfolding then_fed
    then_ended e = ap (λ (b : Bool). cond b more t) e

  then_behind : (x : List ℕ) (t : Stepped) (bytes : List ℕ) → then_fed text (behind x t) bytes ≡ behind x (then_fed text t bytes)
  then_behind x t bytes = go t.state.running refl
    where
      go : (r : Bool) → t.state.running ≡ r → then_fed text (behind x t) bytes ≡ behind x (then_fed text t bytes)
      go true e =
          then_running (behind x t) bytes e
          ∙ ap (λ (l : List ℕ). record { state = (feed_of text t.state bytes).state; text = l }) (append_assoc x t.text _)
          ∙ ap (behind x) (sym (then_running t bytes e))
      go false e = then_ended (behind x t) bytes e ∙ ap (behind x) (sym (then_ended t bytes e))

  -- rows fed in two parts are fed as all of them are
  pub fed_parts : (k j : ℕ) (s : State) (bytes : List ℕ)
      → fed_rows text (k + j) s bytes
      ≡ behind (fed_rows text k s bytes).text (fed_rows text j (fed_rows text k s bytes).state (drop (752 * k) bytes))
  unfolding fed_rows
  fed_parts k zero s bytes =
      ap (λ (i : ℕ). fed_rows text i s bytes) (add-zero k)
      ∙ ap (λ (l : List ℕ). record { state = (fed_rows text k s bytes).state; text = l }) (sym (append-nil (fed_rows text k s bytes).text))
  fed_parts k (suc j) s bytes =
      let d : 752 * k + 752 * j ≡ 752 * (k + j) = omega arith in
      let q : drop (752 * (k + j)) bytes ≡ drop (752 * j) (drop (752 * k) bytes) =
      ap (λ (i : ℕ). drop i bytes) (sym d) ∙ sym (drop-drop (752 * j) (752 * k) bytes)
      in
      ap (λ (i : ℕ). fed_rows text i s bytes) (add-suc k j)
      ∙ ap₂ (λ (t : Stepped) (l : List ℕ). then_fed text t (take 752 l)) (fed_parts k j s bytes) q
      ∙ then_behind (fed_rows text k s bytes).text _ _

  -- where i rows of the bytes are fed, from the state s on
  pub record Fed (s : State) (bytes old new : List ℕ) (i : ℕ) (state : State) : Type 0 where
    pub is : state ≡ (fed_rows text i s bytes).state
    pub put : new ≡ old ++ (fed_rows text i s bytes).text
    pub onward : Onward i s state

  pub fed_none : (s : State) (bytes out : List ℕ) → Sound s → Fed s bytes out out 0 s
  unfolding fed_rows
  fed_none s bytes out k = record {
    is = refl;
    put = sym (append-nil out);
    onward = record { sound = k; rows = λ _. sym (add-zero s.rows) };
  }

  module _ (s : State) (bytes old : List ℕ) {mid : List ℕ} {i : ℕ} {state : State} (f : Fed s bytes old mid i state) where
    -- one more row
    pub fed_more : {r : State} {new : List ℕ} → state.running ≡ true
        → Gives (feed_of text state (take 752 (drop (752 * i) bytes))) r mid new → Onward 1 state r
        → Fed s bytes old new (i + 1) r
    unfolding fed_rows
    fed_more {r} {new} e g o =
        let row = take 752 (drop (752 * i) bytes) in
        let q : fed_rows text (suc i) s bytes ≡ more (fed_rows text i s bytes) row =
        then_running (fed_rows text i s bytes) row (ap (λ (t : State). t.running) (sym f.is) ∙ e)
        in
        let a : feed_of text state row ≡ feed_of text (fed_rows text i s bytes).state row = ap (λ (t : State). feed_of text t row) f.is in
        rw add-one
        (record {
          is = g.state_is ∙ ap (λ (t : Stepped). t.state) a ∙ ap (λ (t : Stepped). t.state) (sym q);
          put =
              g.text_is
              ∙ ap₂ (λ (l : List ℕ) (t : Stepped). l ++ t.text) f.put a
              ∙ append_assoc old (fed_rows text i s bytes).text (feed_of text (fed_rows text i s bytes).state row).text
              ∙ ap (λ (t : Stepped). old ++ t.text) (sym q);
          onward = record { sound = o.sound; rows = λ x. let p = o.rows x in let u = f.onward.rows e in omega arith };
        })

    -- with no row nothing is changed
    pub fed_still : i ≡ 0 → (state ≡ s) × (mid ≡ old)
    unfolding fed_rows
    fed_still e = (
      f.is ∙ ap (λ (k : ℕ). (fed_rows text k s bytes).state) e,
      f.put ∙ ap (λ (k : ℕ). old ++ (fed_rows text k s bytes).text) e ∙ append-nil old,
    )
