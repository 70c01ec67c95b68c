-- What is known of a plain pair with one selector: the kind of its current row, and everything that the plans tell apart.
use mathlib.Core.Path.{◌≡◌, ap}
use mathlib.Core.Logic.{◌⊎◌, inl, inr}
use mathlib.Core.Bool.{Bool, true, ◌&&◌}
use mathlib.Core.List.{List, [], ◌∷◌, ◌++◌}
use Prim.Native.Nat.{ℕ, ◌+◌, ◌<◌, ◌≤◌}
use native.Mathlib.Omega.{arith}
use lib.Dec.{eqb}
use borrow.Author.Tests.{eqb-true}
use Rattle.algebra.specs.Prime.{p}
use Rattle.algebra.specs.Lists.{All, range}
use Rattle.algebra.specs.Field.{𝔾}
use Rattle.table.specs.Cells.{Cell, local, next, lv}
use Rattle.table.specs.Columns.{NUM-OP-SELECTOR, COL-IS-EXT-LINE as IS-EXT-LINE, COL-OP1-IMM as OP1-IMM, COL-S-SIMPLE-ARITHMATIC-OP as SELECTORS}
use Rattle.rulebook.specs.Rule.{holds}
use Rattle.rulebook.specs.Kind.{ones, first_one, kind_of}
use Rattle.rulebook.specs.Words.{PAD, every, bit}
use Rattle.rulebook.specs.Plain.{bits, plain_flags}
use Rattle.rulebook.proofs.Tests.{and_left, and_right}
use Rattle.rulebook.proofs.Cells.{cell}
use Rattle.rulebook.proofs.Poly.{Means, unknown_means}
use Rattle.rulebook.proofs.Values.{env}
use Rattle.rulebook.proofs.Split.{Split, flag, hot, Fits, chosen, heat_means}
use Rattle.rulebook.proofs.Plans.{flags, flags_here, flags_next, given, known}
use Rattle.rulebook.proofs.Shape.{Bit, Bits, first-le, first-lt, told}
use Rattle.rulebook.proofs.Counts.{range_at, bits_are, bit_is, bits_of}

all_join : (P : Split → Type 0) (ss ts : List Split) → All P ss → All P ts → All P (ss ++ ts)
all_join P [] ts h k = k
all_join P (s ∷ ss) ts h k = (h.0, all_join P ss ts h.1 k)

module _ (x : Cell → ℕ) where
  abbrev pub current : ℕ → ℕ
  current c = x (local c)

  abbrev pub following : ℕ → ℕ
  following c = x (next c)

  pub record Facts : Type 0 where
    pub kind-lt : kind_of x < NUM-OP-SELECTOR
    pub selectors : (i : ℕ) → SELECTORS ≤ i → i < SELECTORS + NUM-OP-SELECTOR → current i ≡ chosen i (SELECTORS + kind_of x)
    pub count : ones current SELECTORS NUM-OP-SELECTOR ≡ 1
    pub line : Bit current IS-EXT-LINE
    pub next_line : Bit following IS-EXT-LINE
    pub fits : All (Fits x) given

  flag_fits : (c : Cell) → (x c ≡ 0) ⊎ (x c ≡ 1) → Fits x (flag c)
  flag_fits c (inl e) = inl (ap 𝔾.nat e)
  flag_fits c (inr e) = inr (ap 𝔾.nat e)

  flags_fit : (row : ℕ → Cell) (cs : List ℕ) → All (Bit (λ c. x (row c))) cs → All (Fits x) (flags row cs)
  flags_fit row [] h = tt
  flags_fit row (c ∷ cs) h = (flag_fits (row c) h.0, flags_fit row cs h.1)

  -- bits of a line, at most one of them 1
  pub hot_fits : (l a n : ℕ) → Bits (λ c. x (cell l c)) a n → ones (λ c. x (cell l c)) a n ≤ 1 → Fits x (hot l a n)
  hot_fits l a n b o =
      let g : ℕ → ℕ = λ c. x (cell l c) in
      (first_one g a n, first-le g n a b, λ i u v. ap 𝔾.nat (told g n a b o i u v))

  module _ (canon : (c : Cell) → x c < p) where
    -- from plain flags, the first sentences of A and G, and the first two of F
    pub facts : plain_flags x ≡ true → holds x (bit (lv PAD)) ≡ true
        → holds x (every (range SELECTORS NUM-OP-SELECTOR) (λ c. bit (lv c))) ≡ true → ones current SELECTORS NUM-OP-SELECTOR ≡ 1
        → holds x (bit (lv OP1-IMM)) ≡ true → Facts
    unfolding plain_flags kind_of
    facts plain a f count g =
        let plain-flags : Bool = bits current flags_here in
        let next-flags : Bool = bits following flags_next in
        let next-bits : Bool = bits following (range SELECTORS NUM-OP-SELECTOR) in
        let next_one : Bool = eqb (ones following SELECTORS NUM-OP-SELECTOR) 1 in
        let h : (next-flags && (next-bits && next_one)) ≡ true = and_right plain-flags _ plain in
        let k : (next-bits && next_one) ≡ true = and_right next-flags _ h in
        let here : All (Bit current) flags_here = bits_are current flags_here (and_left _ _ plain) in
        let there : All (Bit following) flags_next = bits_are following flags_next (and_left _ _ h) in
        let selectors : Bits current SELECTORS NUM-OP-SELECTOR = bits_of x canon NUM-OP-SELECTOR SELECTORS f in
        let next-selectors : Bits following SELECTORS NUM-OP-SELECTOR =
        range_at (Bit following) NUM-OP-SELECTOR SELECTORS (bits_are following _ (and_left _ _ k)) in
        let all-flags : All (Fits x) (flags local flags_here ++ flags next flags_next) =
        all_join (Fits x) (flags local flags_here) (flags next flags_next) (flags_fit local flags_here here) (flags_fit next flags_next there) in
        let one : ones following SELECTORS NUM-OP-SELECTOR ≡ 1 = eqb-true _ 1 (and_right next-bits _ k) in
        record {
          kind-lt = first-lt current NUM-OP-SELECTOR SELECTORS selectors count;
          selectors = told current NUM-OP-SELECTOR SELECTORS selectors (omega arith);
          count = count;
          line = here.0;
          next_line = there.0;
          fits = (
            flag_fits (local PAD) (bit_is x canon PAD a),
            (
              flag_fits (local OP1-IMM) (bit_is x canon OP1-IMM g),
              (hot_fits 1 SELECTORS NUM-OP-SELECTOR next-selectors (omega arith), (tt, all-flags)),
            ),
          );
        }

    -- what the cells come to for the kind of the current row
    pub known_means : Facts → Means (env x) (known (kind_of x))
    known_means F =
        heat_means x 0 SELECTORS NUM-OP-SELECTOR (kind_of x) _ (λ i l u. ap 𝔾.nat (F.selectors i l u)) (unknown_means (env x))
