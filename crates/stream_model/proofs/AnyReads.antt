-- However the input is cut into reads, a program prints the same.
use mathlib.Core.Path.{◌≡◌, refl, sym, ap, ◌∙◌}
use mathlib.Core.Bool.{Bool, true, false}
use mathlib.Core.List.{List, [], ◌∷◌, ◌++◌, flatten, append_assoc, append-nil}
use Prim.Native.Nat.{ℕ, zero, suc, ◌+◌, ◌*◌, ◌≤◌, ◌<◌}
use native.Mathlib.Omega.{arith}
use lib.ListN.{length, take, drop, length-drop}
use lib.Seq.{take_all, take-append-le, drop-append-le, drop-drop}
use Rattle.stream_model.specs.Model.{PairText, Stepped, feed_of, rows_of, start_of, output_of}
use Rattle.stream_model.specs.declared.State.{State}
use Rattle.stream_model.proofs.Steps.{ended_steps, rows_step, short_ends}
use Rattle.stream_model.specs.Rows.{rows_in, then_fed, fed_rows}
use Rattle.stream_model.specs.Reads.{Held, nothing_read, after_bytes, after_reads, at_end, printed_by, printed_at_end}
use Rattle.stream_model.proofs.Fed.{then_running, then_ended}

module _ (text : PairText) where
  -- what is printed, and what the input that is left will print
  abbrev all : Stepped → List ℕ → List ℕ
  all t input = t.text ++ rows_of text t.state input

  -- one row
  module _ (t : Stepped) (b rest : List ℕ) (h : 752 ≤ length b) where
    then_all : all t (b ++ rest) ≡ all (then_fed text t (take 752 b)) (drop 752 b ++ rest)
    then_all = go t.state.running refl
      where
        go : (r : Bool) → t.state.running ≡ r → all t (b ++ rest) ≡ all (then_fed text t (take 752 b)) (drop 752 b ++ rest)
        go true e =
            let q = rw (take-append-le 752 b rest h, drop-append-le 752 b rest h) at (rows_step text t.state (b ++ rest) e) in
            ap (λ (l : List ℕ). t.text ++ l) q
            ∙ sym (append_assoc t.text _ _)
            ∙ ap (λ (u : Stepped). all u (drop 752 b ++ rest)) (sym (then_running text t (take 752 b) e))
        go false e =
            ap (λ (l : List ℕ). t.text ++ l)
            (ended_steps text _ t.state (b ++ rest) e ∙ sym (ended_steps text _ t.state (drop 752 b ++ rest) e))
            ∙ ap (λ (u : Stepped). all u (drop 752 b ++ rest)) (sym (then_ended text t (take 752 b) e))

  -- k rows
  rows_all : (k : ℕ) (s : State) (b rest : List ℕ) → 752 * k ≤ length b
      → rows_of text s (b ++ rest) ≡ all (fed_rows text k s b) (drop (752 * k) b ++ rest)
  unfolding fed_rows
  rows_all zero s b rest h = refl
  rows_all (suc k) s b rest h =
      let d : 752 * k + 752 ≡ 752 * suc k = omega arith in
      rows_all k s b rest (omega arith)
      ∙ then_all (fed_rows text k s b) (drop (752 * k) b) rest (rw length-drop (omega arith))
      ∙ ap (λ (l : List ℕ). all (fed_rows text (suc k) s b) (l ++ rest)) (drop-drop 752 (752 * k) b ∙ ap (λ (n : ℕ). drop n b) d)

  -- the same of what some reads leave
  abbrev all_of : Held → List ℕ → List ℕ
  all_of h rest = h.text ++ rows_of text h.state (h.carried ++ rest)

  bytes_all : (h : Held) (bytes rest : List ℕ) → h.text ++ rows_of text h.state (bytes ++ rest) ≡ all_of (after_bytes text h bytes) rest
  bytes_all h bytes rest =
      ap (λ (l : List ℕ). h.text ++ l) (rows_all (rows_in bytes) h.state bytes rest (omega arith)) ∙ sym (append_assoc h.text _ _)

  reads_all : (h : Held) (reads : List (List ℕ)) (rest : List ℕ) → all_of h (flatten reads ++ rest) ≡ all_of (after_reads text h reads) rest
  unfolding after_reads flatten
  reads_all h [] rest = refl
  reads_all h (read ∷ reads) rest =
      ap (λ (l : List ℕ). h.text ++ rows_of text h.state l)
      (ap (λ (l : List ℕ). h.carried ++ l) (append_assoc read (flatten reads) rest) ∙ sym (append_assoc h.carried read (flatten reads ++ rest)))
      ∙ bytes_all h (h.carried ++ read) (flatten reads ++ rest)
      ∙ reads_all (after_bytes text h (h.carried ++ read)) reads rest

  -- what is left over is less than a row
  carried_short : (h : Held) (reads : List (List ℕ)) → length h.carried < 752 → length (after_reads text h reads).carried < 752
  unfolding after_reads
  carried_short h [] k = k
  carried_short h (read ∷ reads) k =
      carried_short (after_bytes text h (h.carried ++ read)) reads (rw length-drop (omega arith))

  -- at the end of the input it is fed as it is
  module _ (h : Held) (k : length h.carried < 752) where
    abbrev printed : Stepped
    printed = record { state = h.state; text = h.text }

    end_all : all_of h [] ≡ at_end text h
    end_all = ap (λ (l : List ℕ). all printed l) (append-nil h.carried) ∙ go h.state.running refl
      where
        go : (r : Bool) → h.state.running ≡ r → all printed h.carried ≡ at_end text h
        go true e =
            let q = rw (take_all 752 h.carried (omega arith)) at (rows_step text h.state h.carried e) in
            ap (λ (l : List ℕ). h.text ++ l) (q ∙ ap (λ (l : List ℕ). (feed_of text h.state h.carried).text ++ l)
            (ended_steps text _ _ _ (short_ends text h.state h.carried k)) ∙ append-nil _)
            ∙ ap (λ (u : Stepped). u.text) (sym (then_running text printed h.carried e))
        go false e =
            ap (λ (l : List ℕ). h.text ++ l) (ended_steps text _ h.state h.carried e)
            ∙ append-nil h.text
            ∙ ap (λ (u : Stepped). u.text) (sym (then_ended text printed h.carried e))

  -- an input, of which everything behind the masks is cut into reads in any way
  module _ (input : List ℕ) (reads : List (List ℕ)) where
    abbrev begun : Stepped
    begun = start_of (take 200 input)

    -- where the reads are all of it, the program prints what the model prints on the whole input
    pub any_reads : flatten reads ≡ drop 200 input → printed_at_end text (take 200 input) reads ≡ output_of text input
    unfolding output_of
    any_reads e =
        let h = nothing_read begun.state in
        ap (λ (l : List ℕ). begun.text ++ l)
        (sym (end_all (after_reads text h reads) (carried_short h reads (omega arith)))
        ∙ sym (reads_all h reads [])
        ∙ ap (λ (l : List ℕ). rows_of text begun.state l) (append-nil (flatten reads) ∙ e))

    -- where they are its beginning, after which a read fails, what is printed is the beginning of that
    pub begun_by_reads : (rest : List ℕ) → flatten reads ++ rest ≡ drop 200 input
        → (more : List ℕ) × (output_of text input ≡ printed_by text (take 200 input) reads ++ more)
    unfolding output_of
    begun_by_reads rest e =
        let h = nothing_read begun.state in
        let a = after_reads text h reads in (
          rows_of text a.state (a.carried ++ rest),
          ap (λ (l : List ℕ). begun.text ++ l) (ap (λ (l : List ℕ). rows_of text begun.state l) (sym e) ∙ reads_all h reads rest)
              ∙ sym (append_assoc begun.text a.text _),
        )
