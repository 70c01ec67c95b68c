-- No text is longer than the room for it.
use mathlib.Core.Path.{◌≡◌, refl, ap, ◌∙◌}
use mathlib.Core.Bool.{Bool, true, false, cond}
use mathlib.Core.List.{List, [], ◌∷◌}
use Prim.Native.Nat.{ℕ, suc, ◌+◌, ◌-◌, ◌*◌, ◌≤◌, ◌<◌}
use native.Mathlib.Omega.{arith}
use lib.ListN.{length, length-append}
use lib.Dec.{leb, ltb, eqb}
use borrow.Author.Tests.{leb-true, leb-false, ltb-true, ltb-false, lt-leb, le-ltb}
use Rattle.algebra.specs.Prime.{p}
use Rattle.refusals.specs.Refusal.{greatest}
use Rattle.field_signed.specs.Signed.{signed_of}
use Rattle.field_signed.proofs.Laws.{as_it_is, minus-p, distance_to_p}
use Rattle.text.specs.Decimal.{decimal_of, signed_decimal}
use Rattle.text.proofs.Digits.{decimal_short, decimal_below}
use Rattle.tally.specs.Tally.{nonzeros, first_from}
use Rattle.stream_text.specs.Lines.{line_of}
use Rattle.stream_text.specs.PairLines.{line_of_pair}
use Rattle.stream_text.specs.Faults.{Fault, pair_faults, fault_line, faults_text, faults_of_pair}
use Rattle.stream_text.specs.Room.{pair_bytes}

pub line_short : (index count lowest : ℕ) → length (line_of index count lowest) ≤ 64
unfolding line_of
line_short index count lowest =
    let i = decimal_short index in
    let c = decimal_short count in
    let l = decimal_short lowest in
    simp length-append (omega arith)

-- the text of a signed number: a residue as it is, or itself minus p
module _ (v : ℕ) where
  pub signed_small : v ≤ greatest → signed_decimal (signed_of v) ≡ decimal_of v
  signed_small h = ap signed_decimal (as_it_is v h)

  pub signed_large : greatest < v → v < p → signed_decimal (signed_of v) ≡ 45 ∷ decimal_of (p - v)
  signed_large h l = ap signed_decimal (minus-p v h l) ∙ ap (λ (n : ℕ). 45 ∷ decimal_of n) (distance_to_p v l)

  -- a word of p or more is no residue
  signed_over : greatest < v → p ≤ v → signed_decimal (signed_of v) ≡ decimal_of (v - p)
  unfolding signed_of
  signed_over h k = simp (lt-leb _ _ h, le-ltb _ _ k)

  -- at most 20 digits, or a sign and at most 19
  pub signed_short : length (signed_decimal (signed_of v)) ≤ 20
  signed_short = go (leb v greatest) refl (ltb v p) refl
    where
      go : (s : Bool) → leb v greatest ≡ s → (t : Bool) → ltb v p ≡ t → length (signed_decimal (signed_of v)) ≤ 20
      go true d t e = rw (signed_small (leb-true _ _ d)) (decimal_short v)
      go false d true e =
          let g : greatest < v = leb-false _ _ d in
          let l : v < p = ltb-true _ _ e in
          rw (signed_large g l) (omega (arith, decimal_below 18 (p - v) (omega arith)))
      go false d false e = rw (signed_over (leb-false _ _ d) (ltb-false _ _ e)) (decimal_short (v - p))

-- the line of a fault, a pair being below 65536 and a number below 1000
module _ (pair : ℕ) (h : pair < 65536) where
  pub fault_short : (number v : ℕ) → number < 1000
      → length (fault_line (record { pair = pair; number = number; signed = signed_of v })) ≤ 31
  unfolding fault_line
  fault_short number v k =
      let i = decimal_below 4 pair (omega arith) in
      let n = decimal_below 2 number k in
      let s = signed_short v in
      simp length-append (omega arith)

  pub faults_short : (k : ℕ) (vs : List ℕ) → k + length vs ≤ 1000
      → length (faults_text (pair_faults pair k vs)) ≤ 31 * length vs
  unfolding pair_faults faults_text
  faults_short k [] l = omega arith
  faults_short k (v ∷ vs) l = go (eqb v 0) (faults_short (suc k) vs (omega arith)) (fault_short k v (omega arith))
    where
      rest : List Fault
      rest = pair_faults pair (suc k) vs

      fault : Fault
      fault = record { pair = pair; number = k; signed = signed_of v }

      go : (b : Bool) → length (faults_text rest) ≤ 31 * length vs → length (fault_line fault) ≤ 31
          → length (faults_text (cond b rest (fault ∷ rest))) ≤ 31 * suc (length vs)
      go true r f = omega arith
      go false r f = rw length-append (omega arith)

-- no text of a pair is longer than the room for it
pub counts_short : (i : ℕ) (vs : List ℕ) → i < 65536 → length vs ≤ 226 → length (line_of_pair i vs) ≤ pair_bytes
counts_short i vs h l = omega (arith, line_short i (nonzeros vs) (first_from 1 vs))

pub faults_of_pair_short : (i : ℕ) (vs : List ℕ) → i < 65536 → length vs ≤ 226 → length (faults_of_pair i vs) ≤ pair_bytes
faults_of_pair_short i vs h l = omega (arith, faults_short i h 1 vs (omega arith))
