-- A text compared step by step with what the model prints.
use mathlib.Core.Path.{◌≡◌, refl, sym, ap, ap₂, ◌∙◌}
use mathlib.Core.Logic.{inl, inr}
use mathlib.Core.Bool.{true, false, false≢true}
use mathlib.Core.List.{List, [], ◌∷◌, ◌++◌, append_assoc}
use Prim.Native.Nat.{ℕ, ◌+◌, min}
use native.Mathlib.Omega.{arith}
use Rattle.std.proofs.lemmas.Bool.{cases_lt}
use borrow.Author.Tests.{ne_eqb}
use lib.Dec.{eqb}
use lib.Pointwise.{pointwise}
use lib.ListN.{length, take, drop, drop_of_length-le, take-append-drop}
use Rattle.std.proofs.lemmas.Slice.Eq.{bytes_eq-Decides}
use lib.Seq.{take_all}
use Rattle.stream_model.specs.Model.{PairText, start_of, feed_of, rows_of, output_of, Stepped, Gives}
use Rattle.stream_model.specs.declared.State.{State}
use Rattle.stream_model.proofs.Steps.{rows_step, ended_steps}

-- the part that is read of what is left, and what is left then
part-is : (l : List ℕ) (n : ℕ) → take (min (length l) n) l ≡ take n l
part-is l n = elim (cases_lt (length l) n) [
  | inl h ↦
      (let e : min (length l) n ≡ length l = omega arith in
      rw e (take_all (length l) l (omega arith) ∙ sym (take_all n l (omega arith))))
  | inr h ↦ (let e : min (length l) n ≡ n = omega arith in rw e)
]

left_is : (l : List ℕ) (n : ℕ) → drop (min (length l) n) l ≡ drop n l
left_is l n = elim (cases_lt (length l) n) [
  | inl h ↦
      (let e : min (length l) n ≡ length l = omega arith in
      rw e (drop_of_length-le l {i = length l} (omega arith) ∙ sym (drop_of_length-le l {i = n} (omega arith))))
  | inr h ↦ (let e : min (length l) n ≡ n = omega arith in rw e)
]

-- what is printed so far of what is expected, and what the input that is left will print
pub record Printed (text : PairText) (input left expected rest : List ℕ) (s : State) : Type 0 where
  pub printed : List ℕ
  pub expects : expected ≡ printed ++ rest
  pub is : output_of text input ≡ printed ++ rows_of text s left

-- what is left of a text behind its beginning
pub stripped : {s p out rest : List ℕ} → p ≡ out
    → (pointwise eqb (take (length p) s) p ≡ true) × (rest ≡ drop (length p) s) × (length rest + length p ≡ length s)
    → s ≡ out ++ rest
stripped {s} {p} {out} {rest} e k =
    let front : take (length p) s ≡ p = (bytes_eq-Decides (take (length p) s) p).0 k.0 in
    sym (take-append-drop (length p) s) ∙ ap₂ (λ (a b : List ℕ). a ++ b) (front ∙ e) (sym k.1)

pub none_left : (rest : List ℕ) → eqb (length rest) 0 ≡ true → rest ≡ []
none_left [] e = refl
none_left (x ∷ xs) e = absurd (false≢true (sym (ne_eqb (length (x ∷ xs)) 0 (λ h. omega arith)) ∙ e))

module _ {text : PairText} {input expected rest part behind old out : List ℕ} {cut : ℕ} {r : State} (e : old ≡ []) where
  -- after the masks
  pub printed_start : cut ≡ min (length input) 200 → part ≡ take cut input → behind ≡ drop cut input
      → Gives (start_of part) r old out → expected ≡ out ++ rest → Printed text input behind expected rest r
  unfolding output_of
  printed_start c p b g x =
      let t : start_of part ≡ start_of (take 200 input) = ap start_of (p ∙ ap (λ (i : ℕ). take i input) c ∙ part-is input 200) in
      record {
        printed = out;
        expects = x;
        is =
            ap₂ (λ (l : List ℕ) (s : State). l ++ rows_of text s (drop 200 input))
            (ap (λ (u : Stepped). u.text) (sym t) ∙ ap (λ (l : List ℕ). l ++ (start_of part).text) (sym e) ∙ sym g.text_is)
            (ap (λ (u : Stepped). u.state) (sym t) ∙ sym g.state_is)
            ∙ ap (λ (l : List ℕ). out ++ rows_of text r l) (sym (b ∙ ap (λ (i : ℕ). drop i input) c ∙ left_is input 200));
      }

  -- after a row more
  pub printed_row : {s : State} {left tail : List ℕ} → Printed text input left expected rest s → s.running ≡ true
      → cut ≡ min (length left) 752 → part ≡ take cut left → behind ≡ drop cut left
      → Gives (feed_of text s part) r old out → rest ≡ out ++ tail → Printed text input behind expected tail r
  printed_row {s} {left} {tail} k run c p b g x =
      let t : feed_of text s part ≡ feed_of text s (take 752 left) = ap (feed_of text s) (p ∙ ap (λ (i : ℕ). take i left) c ∙ part-is left 752) in
      record {
        printed = k.printed ++ out;
        expects = k.expects ∙ ap (λ (l : List ℕ). k.printed ++ l) x ∙ sym (append_assoc k.printed out tail);
        is =
            k.is
            ∙ ap (λ (l : List ℕ). k.printed ++ l) (rows_step text s left run)
            ∙ ap₂ (λ (l : List ℕ) (u : State). k.printed ++ (l ++ rows_of text u (drop 752 left)))
            (ap (λ (u : Stepped). u.text) (sym t) ∙ ap (λ (l : List ℕ). l ++ (feed_of text s part).text) (sym e) ∙ sym g.text_is)
            (ap (λ (u : Stepped). u.state) (sym t) ∙ sym g.state_is)
            ∙ ap (λ (l : List ℕ). k.printed ++ (out ++ rows_of text r l)) (sym (b ∙ ap (λ (i : ℕ). drop i left) c ∙ left_is left 752))
            ∙ sym (append_assoc k.printed out _);
      }

pub printed_all : {text : PairText} {input left expected rest : List ℕ} {s : State} → Printed text input left expected rest s
    → s.running ≡ false → rest ≡ [] → output_of text input ≡ expected
printed_all {text} {input} {left} {expected} {rest} {s} k e n =
    k.is
    ∙ ap (λ (l : List ℕ). k.printed ++ l) (ended_steps text _ s left e ∙ sym n)
    ∙ sym k.expects
