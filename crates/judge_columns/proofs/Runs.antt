-- What the tests of a run of words say: that every rule of the run holds, rule by rule.
use Prim.Native.Nat.{ℕ, zero, suc, ◌+◌, ◌-◌, ◌≤◌, ◌<◌, ◌%◌}
use native.Mathlib.Nat.{zero-add, mod-eq_of_lt}
use native.Mathlib.Omega.{arith}
use native.Mathlib.Numerals.{add-one}
use mathlib.Core.Path.{◌≡◌, refl, sym, ap, ap₂, ◌∙◌}
use mathlib.Core.Bool.{Bool, true, not, ◌&&◌, ◌||◌, and_assoc, and-true}
use mathlib.Core.List.{List, [], ◌∷◌}
use lib.ListN.{length, get_or, take, drop}
use lib.Seq.{length-take-le, get_or-take, get_or-drop}
use lib.Dec.{eqb}
use Rattle.std.specs.List.{fold, list_all, zip, range_with_len}
use Rattle.std.proofs.lemmas.List.{length-drop}
use Rattle.std.proofs.lemmas.Slice.Zip.{length-zip, get_or-zip}
use Rattle.algebra.specs.Prime.{p}
use Rattle.algebra.specs.Lists.{range}
use Rattle.algebra.specs.Expr.{eval}
use Rattle.table.specs.Cells.{Cell, cells, lv, nv}
use Rattle.rulebook.specs.Rule.{Rule, ◌≐◌, ◌⇒◌, holds}
use Rattle.rulebook.specs.Plain.{bits}
use Rattle.rulebook.specs.Words.{on, off, bit, every}

-- a fold that asks each item
folded : {A : Type 0} (t : A → Bool) (b : Bool) (xs : List A) → fold (λ all x. all && t x) b xs ≡ (b && list_all t xs)
folded t b [] = sym (and-true b)
folded t b (x ∷ xs) = folded t (b && t x) xs ∙ and_assoc b (t x) (list_all t xs)

-- the same of a slice of n words from place a on, as Rust cuts it
pub part_folded : (t : ℕ → Bool) (l : List ℕ) (a n : ℕ) →
    fold (λ all x. all && t x) true (take (a + n - a) (drop a l)) ≡ list_all t (take n (drop a l))
part_folded t l a n =
    let e : a + n - a ≡ n = omega arith in
    rw e (folded t true (take n (drop a l)))

-- the same of two slices side by side
pub pairs_folded : (t : ℕ × ℕ → Bool) (k : List ℕ) (a : ℕ) (l : List ℕ) (b n : ℕ) →
    fold (λ all x. all && t x) true (zip (take (a + n - a) (drop a k)) (take (b + n - b) (drop b l))) ≡ list_all t (zip (take n (drop a k)) (take n (drop b l)))
pairs_folded t k a l b n =
    let e : a + n - a ≡ n = omega arith in
    let d : b + n - b ≡ n = omega arith in
    rw (e, d) (folded t true (zip (take n (drop a k)) (take n (drop b l))))

-- a test at each place of a list, and a rule for each place
every_place : {A : Type 0} (x : Cell → ℕ) (f : ℕ → Rule) (t : A → Bool) (d : A) (xs : List A) (a n : ℕ) → length xs ≡ n →
    ((i : ℕ) → i < n → t (get_or xs i d) ≡ holds x (f (a + i))) → list_all t xs ≡ holds x (every (range a n) f)
unfolding holds
every_place x f t d [] a zero e h = refl
every_place x f t d [] a (suc n) e h = absurd (omega (arith, e))
every_place x f t d (y ∷ ys) a zero e h = absurd (omega (arith, e))
every_place x f t d (y ∷ ys) a (suc n) e h =
    ap₂ ◌&&◌
    (h zero (omega arith) ∙ ap (λ (i : ℕ). holds x (f i)) (omega arith))
    (every_place x f t d ys (suc a) n (omega (arith, e)) (λ i l. h (suc i) (omega arith) ∙ ap (λ (k : ℕ). holds x (f k)) (omega arith)))

bits_place : (g : ℕ → ℕ) (xs : List ℕ) (a n : ℕ) → length xs ≡ n → ((i : ℕ) → i < n → get_or xs i 0 ≡ g (a + i)) →
    list_all (λ v. eqb v 0 || eqb v 1) xs ≡ bits g (range a n)
unfolding bits
bits_place g [] a zero e h = refl
bits_place g [] a (suc n) e h = absurd (omega (arith, e))
bits_place g (y ∷ ys) a zero e h = absurd (omega (arith, e))
bits_place g (y ∷ ys) a (suc n) e h =
    ap₂ ◌&&◌
    (ap (λ (v : ℕ). eqb v 0 || eqb v 1) (h zero (omega arith) ∙ ap g (omega arith)))
    (bits_place g ys (suc a) n (omega (arith, e)) (λ i l. h (suc i) (omega arith) ∙ ap g (omega arith)))

-- n words of a list from place a on
module _ (l : List ℕ) (a n : ℕ) (h : a + n ≤ length l) where
  pub part-length : length (take n (drop a l)) ≡ n
  part-length = length-take-le n (drop a l) (omega (arith, length-drop a l))

  pub part_at : (i : ℕ) → i < n → get_or (take n (drop a l)) i 0 ≡ get_or l (a + i) 0
  part_at i s = get_or-take n (drop a l) i 0 s ∙ get_or-drop a l i 0

  pub bits_run : list_all (λ v. eqb v 0 || eqb v 1) (take n (drop a l)) ≡ bits (λ c. get_or l c 0) (range a n)
  bits_run = bits_place (λ c. get_or l c 0) (take n (drop a l)) a n part-length part_at

  -- the words of a row are canonical
  module _ (below : (i : ℕ) → get_or l i 0 < p) where
    residue_at : (i : ℕ) → i < n → get_or (take n (drop a l)) i 0 ≡ get_or l (a + i) 0 % p
    residue_at i s = part_at i s ∙ sym (mod-eq_of_lt (below (a + i)))

    pub off_run : list_all (λ v. eqb v 0) (take n (drop a l)) ≡ holds (cells [] l [] 0 0) (every (range a n) off)
    unfolding holds eval
    off_run =
        every_place (cells [] l [] 0 0) off (λ v. eqb v 0) 0 (take n (drop a l)) a n part-length (λ i s. ap (λ (v : ℕ). eqb v 0) (residue_at i s))

    pub bit_run : list_all (λ v. eqb v 0 || eqb v 1) (take n (drop a l)) ≡ holds (cells [] l [] 0 0) (every (range a n) (λ c. bit (lv c)))
    unfolding holds eval
    bit_run =
        every_place (cells [] l [] 0 0) (λ c. bit (lv c)) (λ v. eqb v 0 || eqb v 1) 0 (take n (drop a l)) a n part-length
        (λ i s. ap (λ (v : ℕ). eqb v 0 || eqb v 1) (residue_at i s))

-- n words of one list from place a on, beside n of another from place b on
module _ (k : List ℕ) (a : ℕ) (l : List ℕ) (b n : ℕ) (h : a + n ≤ length k) (g : b + n ≤ length l) where
  abbrev pairs : List (ℕ × ℕ)
  pairs = zip (take n (drop a k)) (take n (drop b l))

  pairs-length : length pairs ≡ n
  pairs-length = omega (arith, length-zip (take n (drop a k)) (take n (drop b l)), part-length k a n h, part-length l b n g)

  module _ (below-k : (i : ℕ) → get_or k i 0 < p) (below-l : (i : ℕ) → get_or l i 0 < p) where
    pair_at : (i : ℕ) → i < n → get_or pairs i (0, 0) ≡ (get_or k (a + i) 0 % p, get_or l (b + i) 0 % p)
    pair_at i s =
        get_or-zip (take n (drop a k)) (take n (drop b l)) i (0, 0) (omega (arith, part-length k a n h)) (omega (arith, part-length l b n g))
        ∙ ap₂ (λ (u v : ℕ). (u, v)) (residue_at k a n h below-k i s) (residue_at l b n g below-l i s)

    pub carried_run : list_all (λ e. eqb e.0 e.1) pairs ≡ holds (cells [] l k 0 0) (every (range 0 n) (λ t. nv (a + t) ≐ lv (b + t)))
    unfolding holds eval
    carried_run =
        every_place (cells [] l k 0 0) (λ t. nv (a + t) ≐ lv (b + t)) (λ e. eqb e.0 e.1) (0, 0) pairs 0 n pairs-length
        (λ i s. rw (zero-add i) (ap (λ (e : ℕ × ℕ). eqb e.0 e.1) (pair_at i s)))

    pub chosen_run : (o : ℕ) → list_all (λ e. not (eqb e.0 1) || eqb e.1 (get_or k o 0)) pairs
        ≡ holds (cells [] k l 0 0) (every (range 0 n) (λ i. on (a + i) ⇒ nv (b + i) ≐ lv o))
    unfolding holds eval
    chosen_run o =
        every_place (cells [] k l 0 0) (λ i. on (a + i) ⇒ nv (b + i) ≐ lv o) (λ e. not (eqb e.0 1) || eqb e.1 (get_or k o 0)) (0, 0) pairs 0 n pairs-length
        (λ i s. rw (zero-add i) (ap₂ (λ (e : ℕ × ℕ) (v : ℕ). not (eqb e.0 1) || eqb e.1 v) (pair_at i s) (sym (mod-eq_of_lt (below-k o)))))

-- registers of the current row, lent as those of the next
pub chosen_current : (l : List ℕ) (s o : ℕ) →
    holds (cells [] l l 0 0) (every (range 0 10) (λ i. on (s + i) ⇒ nv (16 + i) ≐ lv o))
    ≡ holds (cells [] l [] 0 0) (every (range 0 10) (λ i. on (s + i) ⇒ lv (16 + i) ≐ lv o))
unfolding holds eval
chosen_current l s o = refl

-- b, and that every test of the run is passed
abbrev asked : (ℕ → Bool) → Bool → ℕ → ℕ → Bool
asked t b a n = fold (λ all c. all && t c) b (range_with_len a n)

every-asked : (x : Cell → ℕ) (f : ℕ → Rule) (t : ℕ → Bool) → ((i : ℕ) → holds x (f i) ≡ t i) → (b : Bool) (a n : ℕ) →
    asked t b a n ≡ (b && holds x (every (range a n) f))
unfolding holds
every-asked x f t h b a zero = sym (and-true b)
every-asked x f t h b a (suc n) =
    rw add-one (every-asked x f t h (b && t a) (suc a) n)
    ∙ and_assoc b (t a) (holds x (every (range (suc a) n) f))
    ∙ ap (λ (s : Bool). b && (s && holds x (every (range (suc a) n) f))) (sym (h a))

pub every_run : (x : Cell → ℕ) (f : ℕ → Rule) (t : ℕ → Bool) → ((i : ℕ) → holds x (f i) ≡ t i) → (a n : ℕ) →
    fold (λ all c. all && t c) true (range_with_len a n) ≡ holds x (every (range a n) f)
every_run x f t h a n = every-asked x f t h true a n
