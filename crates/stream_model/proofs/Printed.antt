-- What a program prints on the rows of an input: the texts of their pairs in order, and the line of the refusal that
-- ends it, if one does.
use mathlib.Core.Path.{◌≡◌, refl, sym, ap, ap₂, ◌∙◌}
use mathlib.Core.Bool.{Bool, true, false, cond, not, ◌||◌}
use mathlib.Core.List.{List, [], ◌∷◌, ◌++◌, append_assoc, append-nil}
use Prim.Native.Nat.{ℕ, zero, suc, ◌+◌, ◌-◌, ◌*◌, ◌%◌, ◌≤◌, ◌<◌}
use native.Mathlib.Numerals.{add-one}
use native.Mathlib.Nat.{add-zero}
use native.Mathlib.Omega.{arith}
use borrow.Author.Tests.{eq-eqb, ne_eqb, lt-leb, not-false, ltb-true, ltb-false, eqb-false}
use lib.ListN.{length, take, drop, length-drop, drop_of_length-le}
use lib.Seq.{drop-drop, length-take-le, take_all}
use lib.Dec.{eqb, eqb-suc-zero, leb, ltb}
use Rattle.refusals.specs.Refusal.{canonical, run_length, mask_contents, row_contents}
use Rattle.refusals.proofs.Laws.{none_true, canonical-part}
use Rattle.table.specs.Table.{pair_values}
use Rattle.run_pairs.specs.Run.{first_weight, row_at, row_count, pair_at, tabulate, pairs_of, run_refusal}
use Rattle.run_pairs.proofs.Parts.{clears}
use Rattle.words.specs.Words.{words}
use Rattle.stream_text.specs.Lines.{refused_of}
use Rattle.stream_model.specs.Model.{
  Stepped,
  PairText,
  ended,
  ready,
  refused_by,
  pair_text,
  feed_of,
  row_of,
  accept_of,
  end_of,
  start_of,
  masks_of,
  rows_of,
  output_of,
  texts_from,
  followed,
  refusal_after,
  masks_in,
  run_in,
}
use Rattle.stream_model.specs.declared.State.{State}
use Rattle.stream_model.proofs.Laws.{words-length}
use Rattle.stream_model.proofs.Steps.{ended_steps, rows_step}
use Rattle.stream_model.proofs.Blocks.{block_row}

-- the state after row j of a run
abbrev pub after : List ℕ → List ℕ → ℕ → State
after run masks j = record { masks = masks; first = row_at run 0; previous = row_at run j; rows = suc j; running = true }

module _ (run masks : List ℕ) (n j : ℕ) where
  inner_pair : (suc j ≡ n → ⊥) → pair_at run masks n j ≡ followed run masks j
  unfolding pair_at
  inner_pair h = rw (add-one, ne_eqb (suc j) n h)

  last-pair : suc j ≡ n → pair_at run masks n j ≡ pair_values masks (row_at run j) (row_at run 0) 0 (first_weight j)
  unfolding pair_at
  last-pair h = rw (add-one, eq-eqb (suc j) n h)

row_good : (run : List ℕ) (i : ℕ) → canonical run ≡ true → (row_contents (row_at run i)).holds ≡ false
unfolding row_at
row_good run i good = ap not (canonical-part (94 * i) 94 run good)

module _ (text : PairText) where
  -- the texts of the pairs that row by row become whole, and then that of the last one
  texts_closed : (run masks : List ℕ) (n m j : ℕ) → j + suc m ≡ n
      → texts_from text j (tabulate (followed run masks) j m) ++ text (j + m) (pair_at run masks n (j + m))
      ≡ texts_from text j (tabulate (pair_at run masks n) j (suc m))
  unfolding texts_from tabulate
  texts_closed run masks n zero j e = rw (add-zero j) (sym (append-nil _))
  texts_closed run masks n (suc m) j e =
      let q : suc j + m ≡ j + suc m = omega arith in
      append_assoc (text j (followed run masks j)) _ _
      ∙ ap₂ (λ (x y : List ℕ). x ++ y) (ap (text j) (sym (inner_pair run masks n j (λ h. omega arith))))
      (ap (λ (k : ℕ). texts_from text (suc j) (tabulate (followed run masks) (suc j) m) ++ text k (pair_at run masks n k)) (sym q)
      ∙ texts_closed run masks n m (suc j) (omega arith))

  -- bytes of which n rows are whole and canonical, and what may follow them
  module _ (b masks : List ℕ) (n : ℕ) (size : 752 * n ≤ length b) (few : n ≤ 65536) (good : canonical (words (94 * n) b) ≡ true) where
    abbrev run : List ℕ
    run = words (94 * n) b

    fed_first : 0 < n → feed_of text (ready masks) (take 752 b) ≡ record { state = after run masks 0; text = [] }
    unfolding feed_of row_of accept_of
    fed_first e =
        let l : length (take 752 b) ≡ 752 = length-take-le 752 b (omega arith) in
        rw (l, block_row n 0 b size e, row_good run 0 good)

    fed_row : (j : ℕ) → suc j < n
        → feed_of text (after run masks j) (take 752 (drop (752 * suc j) b))
        ≡ record { state = after run masks (suc j); text = text j (followed run masks j) }
    unfolding feed_of row_of accept_of pair_text
    fed_row j h =
        let l : length (take 752 (drop (752 * suc j) b)) ≡ 752 = length-take-le 752 (drop (752 * suc j) b) (rw length-drop (omega arith)) in
        let a : leb 65536 (suc j) ≡ false = lt-leb 65536 (suc j) (omega arith) in
        let z : eqb (suc j) 0 ≡ false = ne_eqb (suc j) 0 (λ e. omega arith) in
        let q : suc j + 1 ≡ suc (suc j) = add-one (suc j) in
        let p : suc j - 1 ≡ j = omega arith in
        rw (l, block_row n (suc j) b size h, a, row_good run (suc j) good, z, q, p)

    -- m rows more: the texts of the pairs that they make whole, and what the rest prints
    rows_more : (m j : ℕ) → j + m < n
        → rows_of text (after run masks j) (drop (752 * suc j) b)
        ≡ texts_from text j (tabulate (followed run masks) j m)
        ++ rows_of text (after run masks (j + m)) (drop (752 * suc (j + m)) b)
    unfolding texts_from tabulate
    rows_more zero j h = rw (add-zero j)
    rows_more (suc m) j h =
        let d : 752 * suc j + 752 ≡ 752 * suc (suc j) = omega arith in
        let q : suc j + m ≡ j + suc m = omega arith in
        rows_step text (after run masks j) (drop (752 * suc j) b) refl
        ∙ rw (fed_row j (omega arith), drop-drop 752 (752 * suc j) b, d)
        (ap (λ (l : List ℕ). text j (followed run masks j) ++ l)
        (rows_more m (suc j) (omega arith)
        ∙ ap (λ (k : ℕ). texts_from text (suc j) (tabulate (followed run masks) (suc j) m) ++ rows_of text (after run masks k) (drop (752 * suc k) b)) q)
        ∙ sym (append_assoc (text j (followed run masks j)) _ _))

    -- "lines already printed stand": after the n rows, the texts of their pairs but the last, whatever follows
    pub stands : (m : ℕ) → suc m ≡ n
        → rows_of text (ready masks) b
        ≡ texts_from text 0 (tabulate (followed run masks) 0 m) ++ rows_of text (after run masks m) (drop (752 * n) b)
    stands m e =
        let z : 0 + m ≡ m = omega arith in
        rows_step text (ready masks) b refl
        ∙ rw (fed_first (omega arith)) (rw z at (rows_more m 0 (omega arith)))
        ∙ ap (λ (k : ℕ). texts_from text 0 (tabulate (followed run masks) 0 m) ++ rows_of text (after run masks m) (drop (752 * k) b)) e

    fed_last : (m : ℕ) → suc m ≡ n
        → feed_of text (after run masks m) [] ≡ record { state = ended (after run masks m); text = text m (pair_at run masks n m) }
    unfolding feed_of end_of pair_text
    fed_last m e =
        let z : eqb (suc m) 0 ≡ false = ne_eqb (suc m) 0 (λ h. omega arith) in
        let p : suc m - 1 ≡ m = omega arith in
        rw (z, p, last-pair run masks n m e)

    -- where nothing follows, the texts of all pairs
    pub closes : (m : ℕ) → suc m ≡ n → length b ≡ 752 * n → rows_of text (ready masks) b ≡ texts_from text 0 (tabulate (pair_at run masks n) 0 n)
    closes m e l =
        let r : drop (752 * n) b ≡ [] = drop_of_length-le b {i = 752 * n} (omega arith) in
        let z : 0 + m ≡ m = omega arith in
        stands m e
        ∙ ap (λ (x : List ℕ). texts_from text 0 (tabulate (followed run masks) 0 m) ++ x)
        (ap (rows_of text (after run masks m)) r
        ∙ rows_step text (after run masks m) [] refl
        ∙ rw (fed_last m e) (ap (λ (x : List ℕ). text m (pair_at run masks n m) ++ x) (ended_steps text _ _ [] refl) ∙ append-nil _))
        ∙ rw z at (texts_closed run masks n m 0 (omega arith))
        ∙ ap (λ (k : ℕ). texts_from text 0 (tabulate (pair_at run masks n) 0 k)) e

    -- where what follows is turned back, the texts of the pairs but the last, and the line of the refusal
    refuses : (m number : ℕ) → suc m ≡ n
        → feed_of text (after run masks m) (take 752 (drop (752 * n) b)) ≡ refused_by (after run masks m) number
        → rows_of text (ready masks) b ≡ texts_from text 0 (tabulate (followed run masks) 0 m) ++ refused_of number
    refuses m number e r =
        stands m e
        ∙ ap (λ (x : List ℕ). texts_from text 0 (tabulate (followed run masks) 0 m) ++ x)
        (rows_step text (after run masks m) (drop (752 * n) b) refl
        ∙ rw r (ap (λ (x : List ℕ). refused_of number ++ x) (ended_steps text _ _ _ refl) ∙ append-nil _))

  -- a state turns back what follows its rows with the number of the definition
  module _ (s : State) where
    abbrev Refused : ℕ → Stepped → Type 0
    Refused number t = (number ≡ 0 → ⊥) → t ≡ refused_by s number

    by_one : (n : ℕ) (b : Bool) (x : Stepped) → Refused (cond b n 0) (cond b (refused_by s n) x)
    by_one n true x h = refl
    by_one n false x h = absurd (h refl)

    by_two : (a b : Bool) (x : Stepped) → Refused (cond a 1 (cond b 6 0)) (cond a (refused_by s 1) (cond b (refused_by s 6) x))
    by_two true b x h = refl
    by_two false b x h = by_one 6 b x h

    not_whole : (rest : List ℕ) (short : Bool) → ltb (length rest) 752 ≡ short → 0 < length rest
        → Refused (cond (short || leb 65536 s.rows) 1 (cond (row_contents (words 94 (take 752 rest))).holds 6 0)) (feed_of text s (take 752 rest))
    unfolding feed_of end_of row_of
    not_whole rest true e some h =
        let l = ltb-true (length rest) 752 e in
        let z : eqb (length rest) 0 ≡ false = ne_eqb (length rest) 0 (λ q. omega arith) in
        let n : eqb (length rest) 752 ≡ false = ne_eqb (length rest) 752 (λ q. omega arith) in
        rw (take_all 752 rest (omega arith), z, n)
    not_whole rest false e some h =
        let l = ltb-false (length rest) 752 e in
        let n : length (take 752 rest) ≡ 752 = length-take-le 752 rest (omega arith) in
        rw n (by_two (leb 65536 s.rows) (row_contents (words 94 (take 752 rest))).holds _ h)

    fed_refused : (rest : List ℕ) → Refused (refusal_after s.rows rest) (feed_of text s (take 752 rest))
    unfolding feed_of end_of
    fed_refused [] = by_one 1 (eqb s.rows 0) _
    fed_refused (x ∷ xs) = rw (eqb-suc-zero (length xs)) (not_whole (x ∷ xs) (ltb (length (x ∷ xs)) 752) refl (omega arith))

  rows_refused : (b masks : List ℕ) (n : ℕ) → 752 * n ≤ length b → n ≤ 65536 → canonical (words (94 * n) b) ≡ true
      → (refusal_after n (drop (752 * n) b) ≡ 0 → ⊥)
      → rows_of text (ready masks) b
      ≡ texts_from text 0 (tabulate (followed (words (94 * n) b) masks) 0 (n - 1)) ++ refused_of (refusal_after n (drop (752 * n) b))
  unfolding texts_from tabulate
  rows_refused b masks zero size few good r =
      rows_step text (ready masks) b refl
      ∙ rw (fed_refused (ready masks) b r)
      (ap (λ (x : List ℕ). refused_of (refusal_after 0 b) ++ x) (ended_steps text _ _ _ refl) ∙ append-nil _)
  rows_refused b masks (suc m) size few good r =
      let p : suc m - 1 ≡ m = omega arith in
      rw p (refuses b masks (suc m) size few good m _ refl (fed_refused (after (words (94 * suc m) b) masks m) (drop (752 * suc m) b) r))

started : (t : List ℕ) → length t ≡ 200 → (mask_contents (words 25 t)).holds ≡ false → start_of t ≡ record { state = ready (words 25 t); text = [] }
unfolding start_of masks_of
started t l e = rw (l, e)

-- a run of 1 to 65,536 rows
run_length_lem : (run : List ℕ) → (run_length run).holds ≡ false → (0 < length run) × (row_count run ≤ 65536)
run_length_lem run e =
    let k = none_true (not (eqb (length run % 94) 0) || eqb (length run) 0) (ltb 65536 (row_count run)) e in
    let z : length run ≡ 0 → ⊥ = eqb-false _ _ (none_true (not (eqb (length run % 94) 0)) (eqb (length run) 0) k.0).1 in
    (omega arith, ltb-false _ _ k.1)

-- whatever a program prints of a pair
module _ (text : PairText) (input : List ℕ) where
  -- "2 for too few masks, 5"
  pub too_few-masks : length input < 200 → output_of text input ≡ refused_of 2
  unfolding output_of start_of
  too_few-masks h =
      let n : eqb (length input) 200 ≡ false = ne_eqb (length input) 200 (λ e. omega arith) in
      rw (take_all 200 input (omega arith), n) (ap (λ (l : List ℕ). refused_of 2 ++ l) (ended_steps text _ _ _ refl) ∙ append-nil _)

  pub masks_turned_back : 200 ≤ length input → (mask_contents (masks_in input)).holds ≡ true → output_of text input ≡ refused_of 5
  unfolding output_of start_of masks_of
  masks_turned_back h e =
      let l : length (take 200 input) ≡ 200 = length-take-le 200 input h in
      rw (l, e) (ap (λ (l : List ℕ). refused_of 5 ++ l) (ended_steps text _ _ _ refl) ∙ append-nil _)

  module _ (n : ℕ) where
    -- an input of 25 masks and n rows that are accepted, as a run is: the texts of the run's pairs, in order, and
    -- nothing else
    pub prints_texts : length input ≡ 200 + 752 * n → run_refusal (run_in n input) (masks_in input) ≡ 0
        → output_of text input ≡ texts_from text 0 (pairs_of (run_in n input) (masks_in input))
    unfolding output_of pairs_of
    prints_texts size accepted =
        let c = clears (run_in n input) (masks_in input) accepted in
        let l : length (take 200 input) ≡ 200 = length-take-le 200 input (omega arith) in
        let w : length (run_in n input) ≡ 94 * n = words-length (94 * n) (drop 200 input) in
        let q : row_count (run_in n input) ≡ n = omega arith in
        let k = run_length_lem (run_in n input) c.0 in
        let m : suc (n - 1) ≡ n = omega (arith, k.0) in
        let d : length (drop 200 input) ≡ 752 * n = rw length-drop (omega arith) in
        ap (λ (t : Stepped). t.text ++ rows_of text t.state (drop 200 input)) (started (take 200 input) l c.1.1.0)
        ∙ closes text (drop 200 input) (masks_in input) n (omega arith) (omega (arith, k.1)) (not-false _ c.1.1.1.0) (n - 1) m d
        ∙ ap (λ (k : ℕ). texts_from text 0 (tabulate (pair_at (run_in n input) (masks_in input) k) 0 k)) (sym q)

    -- one of which n rows are accepted and what follows them is turned back: the texts of the pairs that were whole
    -- stand, and the line of the refusal follows
    pub prints_refusal : 200 + 752 * n ≤ length input → n ≤ 65536
        → (mask_contents (masks_in input)).holds ≡ false → canonical (run_in n input) ≡ true
        → (refusal_after n (drop (752 * n) (drop 200 input)) ≡ 0 → ⊥)
        → output_of text input
        ≡ texts_from text 0 (tabulate (followed (run_in n input) (masks_in input)) 0 (n - 1))
        ++ refused_of (refusal_after n (drop (752 * n) (drop 200 input)))
    unfolding output_of
    prints_refusal size few masks good r =
        let l : length (take 200 input) ≡ 200 = length-take-le 200 input (omega arith) in
        ap (λ (t : Stepped). t.text ++ rows_of text t.state (drop 200 input)) (started (take 200 input) l masks)
        ∙ rows_refused text (drop 200 input) (masks_in input) n (rw length-drop (omega arith)) few good r
