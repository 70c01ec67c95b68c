-- Programs that differ in the text of a pair print each pair at the same moment.
use mathlib.Core.Path.{◌≡◌, refl, sym, ap, subst, fun_ext, ◌∙◌}
use mathlib.Core.Logic.{inl, inr}
use mathlib.Core.Bool.{Bool, true, false, cond, false≢true}
use mathlib.Core.List.{List, [], ◌∷◌, ◌++◌, append_assoc, append-nil}
use Prim.Native.Nat.{ℕ, zero, suc, ◌+◌, ◌-◌}
use native.Mathlib.Omega.{arith}
use borrow.Author.Tests.{eqb-true, eqb-false}
use lib.ListN.{length, length-append}
use lib.Dec.{eqb, leb}
use Rattle.refusals.specs.Refusal.{mask_contents, row_contents}
use Rattle.table.specs.Table.{pair_values}
use Rattle.run_pairs.specs.Run.{first_weight}
use Rattle.words.specs.Words.{words}
use Rattle.stream_text.specs.Lines.{refused_of}
use Rattle.stream_model.specs.Model.{
  PairText,
  Stepped,
  blank,
  ready,
  opened,
  advanced,
  ended,
  refused_by,
  masks_of,
  start_of,
  pair_text,
  accept_of,
  row_of,
  end_of,
  feed_of,
  texts_from,
}
use Rattle.stream_model.specs.declared.State.{State}
use Rattle.stream_model.specs.Rows.{rows_in, then_fed, fed_rows}
use Rattle.stream_model.specs.Reads.{Held, after_reads, at_end}
use Rattle.stream_model.specs.Moment.{SamePairs, Moment}
use Rattle.stream_model.proofs.Laws.{behind}

-- the text of one pair more
texts_more : (text : PairText) (i k : ℕ) (pairs : List (List ℕ)) (vs : List ℕ) → i + length pairs ≡ k
    → texts_from text i pairs ++ text k vs ≡ texts_from text i (pairs ++ (vs ∷ []))
unfolding texts_from
texts_more text i k [] vs e = let q : k ≡ i = omega arith in rw (q, append-nil)
texts_more text i k (x ∷ pairs) vs e =
    append_assoc (text i x) _ _ ∙ ap (λ (l : List ℕ). text i x ++ l) (texts_more text (suc i) k pairs vs (omega arith))

-- what holds in both cases of a test that does not look at the text
each : {A B : Type 0} (P : (A → B) → Type 0) (b : Bool) {x y : A → B} → (b ≡ true → P x) → (b ≡ false → P y)
    → P (λ a. cond b (x a) (y a))
each P true f g = f refl
each P false f g = g refl

-- programs that differ in the text of a pair: in one state; while more may come, all pairs but the last are printed
record Alike (t : PairText → Stepped) : Type 0 where
  state : State
  same : (text : PairText) → (t text).state ≡ state
  shown : SamePairs (λ text. (t text).text)
  running : state.running ≡ true → (shown.last ≡ []) × (length shown.pairs ≡ state.rows - 1)

-- where no refusal was printed
no_refusal : {printed : PairText → List ℕ} (s : State) (pairs : List (List ℕ))
    → ((text : PairText) → printed text ≡ texts_from text 0 pairs)
    → (s.running ≡ true → length pairs ≡ s.rows - 1)
    → Alike (λ text. record { state = s; text = printed text })
no_refusal s pairs shown count = record {
  state = s;
  same = λ _. refl;
  shown = record { pairs = pairs; last = []; last_is = inl refl; prints = λ text. shown text ∙ sym (append-nil _) };
  running = λ e. (refl, count e);
}

-- one step of a state in which more may come
module _ (s : State) (pairs : List (List ℕ)) (count : length pairs ≡ s.rows - 1) (printed : PairText → List ℕ)
    (shown : (text : PairText) → printed text ≡ texts_from text 0 pairs) where
  abbrev Next : (PairText → Stepped) → Type 0
  Next t = Alike (λ text. behind (printed text) (t text))

  refused : (number : ℕ) → Next (λ _. refused_by s number)
  refused number = record {
    state = ended s;
    same = λ _. refl;
    shown = record {
      pairs = pairs;
      last = refused_of number;
      last_is = inr (number, refl);
      prints = λ text. rw (shown text);
    };
    running = λ e. absurd (false≢true e);
  }

  one-pair : (new : State) (next : List ℕ) (z : ℕ) → (s.rows ≡ 0 → ⊥) → (new.running ≡ true → new.rows ≡ s.rows + 1)
      → Next (λ text. record { state = new; text = pair_text text s next z })
  unfolding pair_text
  one-pair new next z some rows =
      no_refusal new (pairs ++ (pair_values s.masks s.previous next z (first_weight (s.rows - 1)) ∷ []))
      (λ text. rw (shown text) (texts_more text 0 (s.rows - 1) pairs _ (omega arith)))
      (λ e. let r = rows e in rw length-append (omega arith))

  row-alike : (row : List ℕ) → Next (λ text. row_of text s row)
  unfolding row_of accept_of
  row-alike row =
      each Next (leb 65536 s.rows) (λ _. refused 1)
      (λ _. each Next (row_contents row).holds (λ _. refused 6)
      (λ _. each Next (eqb s.rows 0)
      (λ e. let z = eqb-true s.rows 0 e in
      no_refusal (opened s row) pairs (λ text. append-nil _ ∙ shown text) (λ _. omega arith))
      (λ e. one-pair (advanced s row) row 1 (eqb-false _ _ e) (λ _. refl))))

  feed_alike : (bytes : List ℕ) → Next (λ text. feed_of text s bytes)
  unfolding feed_of end_of
  feed_alike bytes =
      each Next (eqb (length bytes) 0)
      (λ _. each Next (eqb s.rows 0) (λ _. refused 1)
      (λ e. one-pair (ended s) s.first 0 (eqb-false _ _ e) (λ q. absurd (false≢true q))))
      (λ _. each Next (eqb (length bytes) 752) (λ _. row-alike (words 94 bytes)) (λ _. refused 1))

-- one step of any state
module _ (before : PairText → List ℕ) (t : PairText → Stepped) (bytes : List ℕ)
    (a : Alike (λ text. behind (before text) (t text))) where
  abbrev Then : Type 0
  Then = Alike (λ text. behind (before text) (then_fed text (t text) bytes))

  then_alike : Then
  unfolding then_fed
  then_alike = go a.state.running refl
    where
      go : (r : Bool) → a.state.running ≡ r → Then
      go true e =
          let p = a.shown in
          let k = a.running e in
          subst Alike (fun_ext (λ text. rw (a.same text, e, append_assoc)))
          (feed_alike a.state p.pairs k.1 _ (λ text. p.prints text ∙ rw (k.0, append-nil)) bytes)
      go false e = subst Alike (fun_ext (λ text. rw (a.same text, e))) a

-- some rows
rows_alike : (k : ℕ) (s : PairText → State) (before : PairText → List ℕ) (bytes : List ℕ)
    → Alike (λ text. record { state = s text; text = before text })
    → Alike (λ text. behind (before text) (fed_rows text k (s text) bytes))
unfolding fed_rows
rows_alike zero s before bytes a = subst Alike (fun_ext (λ text. rw append-nil)) a
rows_alike (suc k) s before bytes a =
    then_alike before (λ text. fed_rows text k (s text) bytes) _ (rows_alike k s before bytes a)

-- after some reads, and where the input ends there
module _ (begun : List ℕ) where
  abbrev Shown : (PairText → Held) → Type 0
  Shown h = SamePairs (λ text. begun ++ (h text).text) × SamePairs (λ text. begun ++ at_end text (h text))

  reads_alike : (reads : List (List ℕ)) (carried : List ℕ) (s : PairText → State) (printed : PairText → List ℕ)
      → Alike (λ text. record { state = s text; text = begun ++ printed text })
      → Shown (λ text. after_reads text (record { state = s text; carried = carried; text = printed text }) reads)
  unfolding after_reads
  reads_alike [] carried s printed a =
      (a.shown, (then_alike (λ _. begun) (λ text. record { state = s text; text = printed text }) carried a).shown)
  reads_alike (read ∷ reads) carried s printed a =
      let b = rows_alike (rows_in (carried ++ read)) s (λ text. begun ++ printed text) (carried ++ read) a in
      reads_alike reads _ _ _ (subst Alike (fun_ext (λ text. rw append_assoc)) b)

-- after the masks' bytes
start_alike : (masks : List ℕ)
    → Alike (λ _. behind (start_of masks).text (record { state = (start_of masks).state; text = [] }))
unfolding start_of masks_of texts_from
start_alike masks =
    subst Alike (fun_ext (λ _. rw append-nil))
    (each Alike (eqb (length masks) 200)
    (λ _. each Alike (mask_contents (words 25 masks)).holds (λ _. turned_back 5)
    (λ _. no_refusal (ready (words 25 masks)) [] (λ _. refl) (λ _. refl)))
    (λ _. turned_back 2))
  where
    turned_back : (number : ℕ) → Alike (λ _. refused_by blank number)
    turned_back = refused blank [] refl (λ _. []) (λ _. refl)

-- whatever was read so far, every program has printed the texts of the same pairs
pub same_moment : (masks : List ℕ) (reads : List (List ℕ)) → Moment masks reads
same_moment masks reads =
    let a = reads_alike (start_of masks).text reads [] (λ _. (start_of masks).state) (λ _. []) (start_alike masks) in
    record { so_far = a.0; at_input_end = a.1 }
