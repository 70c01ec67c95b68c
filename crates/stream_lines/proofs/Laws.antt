-- The lines of a pair's values, put one after the other.
use mathlib.Core.Path.{◌≡◌, refl, sym, ap, ◌∙◌}
use mathlib.Core.Logic.{◌≢◌}
use mathlib.Core.List.{List, [], ◌∷◌, ◌++◌, append_assoc, append-nil}
use Prim.Native.Nat.{ℕ, ◌+◌, ◌-◌, ◌*◌, ◌≤◌, ◌<◌}
use native.Mathlib.Numerals.{add-one}
use native.Mathlib.Omega.{arith}
use borrow.Author.Tests.{eq-eqb, ne_eqb}
use lib.ListN.{length, take, get_or}
use lib.Seq.{take-suc, length-take-le}
use Rattle.algebra.specs.Prime.{p}
use Rattle.refusals.specs.Refusal.{greatest}
use Rattle.field_signed.specs.Signed.{signed_of}
use Rattle.text.specs.Decimal.{decimal_of, signed_decimal}
use Rattle.text.proofs.Digits.{decimal_below}
use Rattle.stream_text.specs.Faults.{pair_faults, fault_line, faults_text, faults_of_pair}
use Rattle.stream_text.proofs.Short.{signed_small, signed_large, faults_short}
use Rattle.stream_text.proofs.Tells.{pair-append, text-append}

-- how long a line's numbers are at most
pub pair_digits : (pair : ℕ) → pair < 65536 → length (decimal_of pair) ≤ 5
pair_digits pair h = decimal_below 4 pair (omega arith)

pub number_digits : (number : ℕ) → number < 1000 → length (decimal_of number) ≤ 3
number_digits number h = decimal_below 2 number h

-- a signed number, put as its digits, or as its sign and then its digits
pub small_put : (out : List ℕ) (v : ℕ) → v ≤ greatest → out ++ decimal_of v ≡ out ++ signed_decimal (signed_of v)
small_put out v h = ap (λ (l : List ℕ). out ++ l) (sym (signed_small v h))

pub large_put : (out : List ℕ) (v : ℕ) → greatest < v → v < p
    → (out ++ (45 ∷ [])) ++ decimal_of (p - v) ≡ out ++ signed_decimal (signed_of v)
large_put out v h l =
    append_assoc out (45 ∷ []) (decimal_of (p - v)) ∙ ap (λ (d : List ℕ). out ++ d) (sym (signed_large v h l))

pub none_yet : (pair : ℕ) → faults_of_pair pair [] ≡ []
unfolding pair_faults faults_text
none_yet pair = refl

module _ (pair : ℕ) (vs : List ℕ) (i : ℕ) (h : i < length vs) where
  -- the lines of the first i + 1 values are those of the first i, and that of the value at i
  next-value : faults_of_pair pair (take (i + 1) vs)
      ≡ faults_of_pair pair (take i vs) ++ faults_text (pair_faults pair (i + 1) (get_or vs i 0 ∷ []))
  next-value =
      let n : 1 + length (take i vs) ≡ i + 1 = omega (arith, length-take-le i vs (omega arith)) in
      ap (λ (l : List ℕ). faults_of_pair pair l) (rw (add-one, take-suc vs i 0))
      ∙ ap faults_text (pair-append pair 1 (take i vs) (get_or vs i 0 ∷ []))
      ∙ text-append _ _
      ∙ ap (λ (k : ℕ). faults_of_pair pair (take i vs) ++ faults_text (pair_faults pair k (get_or vs i 0 ∷ []))) n

  pub skipped : get_or vs i 0 ≡ 0 → faults_of_pair pair (take (i + 1) vs) ≡ faults_of_pair pair (take i vs)
  unfolding pair_faults faults_text
  skipped z = next-value ∙ simp (eq-eqb _ _ z, append-nil)

  pub more : get_or vs i 0 ≢ 0
      → faults_of_pair pair (take (i + 1) vs)
      ≡ faults_of_pair pair (take i vs)
      ++ fault_line (record { pair = pair; number = i + 1; signed = signed_of (get_or vs i 0) })
  unfolding pair_faults faults_text
  more z = next-value ∙ simp (ne_eqb _ _ z, append-nil)

  -- room for a line is left behind the lines of the first i values
  pub room-left : pair < 65536 → length vs ≤ 226 → length (faults_of_pair pair (take i vs)) + 31 ≤ 31 * length vs
  room-left k l =
      let e : length (take i vs) ≡ i = length-take-le i vs (omega arith) in
      omega (arith, faults_short pair k 1 (take i vs) (omega arith))
