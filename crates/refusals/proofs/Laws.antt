-- Laws of the refusal table: conditions one after the other, and what is known where none holds.
use mathlib.Core.Path.{◌≡◌, refl, sym, ap, ◌∙◌}
use mathlib.Core.Bool.{Bool, true, false, cond, not, ◌&&◌, ◌||◌, and_assoc, and-true}
use mathlib.Core.List.{List, [], ◌∷◌, ◌++◌}
use Prim.Native.Nat.{ℕ, zero, suc, ◌+◌, ◌-◌, ◌<◌}
use native.Mathlib.Numerals.{add-one}
use native.Mathlib.Omega.{arith}
use lib.ListN.{length, get_or, take, drop, take-append-drop}
use lib.Seq.{drop-cons}
use lib.Dec.{T, eqb, ltb, ltb→lt, lit<}
use borrow.Author.Tests.{eqb-true, eqb-false, eq-eqb, ne_eqb, not-false, ltb-true}
use Rattle.std.specs.Prelude.{Result, Ok, Err}
use Rattle.std.proofs.Math.Facts.{eqb_yes}
use Rattle.std.specs.List.{fold, list_any}
use Rattle.algebra.specs.Prime.{p}
use Rattle.algebra.proofs.Slices.{to_end}
use Rattle.refusals.specs.Refusal.{Condition, lowest, unless, canonical, member, distinct, number, number_of, refusal, refused}
use Rattle.refusals.specs.declared.Refusal.{Refusal}
use Rattle.refusals.specs.declared.Refusal.TheVariants.{RowLength, MaskCount, ValueBuffer, AlphaCount, MaskContents, RowContents, NotBelowP, FlagsNotPlain, FoldCount}

-- none of the conditions holds
abbrev pub Clear : List Condition → Type 0
Clear [] = Unit {0}
Clear (c ∷ cs) = (c.holds ≡ false) × Clear cs

-- every number is positive: computed, and so shown by `tt`
abbrev pub positive : List Condition → Bool
positive [] = true
positive (c ∷ cs) = ltb 0 c.number && positive cs

and_T : (a b : Bool) → T (a && b) → T a × T b
and_T true b t = (tt, t)
and_T false b t = absurd t

-- a call that is not turned back meets no condition
clear_first : (b : Bool) (n m : ℕ) → T (ltb 0 n) → cond b n m ≡ 0 → (b ≡ false) × (m ≡ 0)
clear_first true n m t e = absurd (omega (arith, ltb→lt 0 n t))
clear_first false n m t e = (refl, e)

pub clear : (cs : List Condition) → T (positive cs) → lowest cs ≡ 0 → Clear cs
clear [] t e = tt
clear (c ∷ cs) t e =
    let s = and_T (ltb 0 c.number) (positive cs) t in
    let k = clear_first c.holds c.number (lowest cs) s.0 e in
    (k.0, clear cs s.1 k.1)

-- of conditions none of which holds, neither the first ones nor the others do
pub clear_front : (cs ds : List Condition) → Clear (cs ++ ds) → Clear cs
clear_front [] ds k = tt
clear_front (c ∷ cs) ds k = (k.0, clear_front cs ds k.1)

pub clear_back : (cs ds : List Condition) → Clear (cs ++ ds) → Clear ds
clear_back [] ds k = k
clear_back (c ∷ cs) ds k = clear_back cs ds k.1

-- conditions behind others: they count where none of those holds
pub behind : (cs ds : List Condition) → Clear cs → lowest (cs ++ ds) ≡ lowest ds
behind [] ds k = refl
behind (c ∷ cs) ds k = ap (λ (b : Bool). cond b c.number (lowest (cs ++ ds))) k.0 ∙ behind cs ds k.1

-- conditions before others: they decide where one of them holds
before_first : (b : Bool) (n k m r : ℕ) → n ≡ cond b k m → (n ≡ m → n ≡ r) → n ≡ cond b k r
before_first true n k m r e f = e
before_first false n k m r e f = f e

pub before : (cs ds : List Condition) (n : ℕ) → n ≡ lowest cs → (n ≡ 0 → ⊥) → n ≡ lowest (cs ++ ds)
before [] ds n e h = absurd (h e)
before (c ∷ cs) ds n e h = before_first c.holds n c.number (lowest cs) (lowest (cs ++ ds)) e (λ k. before cs ds n k h)

-- a call that is turned back with n, one that is not, and what holds in both cases
module _ {A : Type 0} (refused : ℕ → A) (answer : A) where
  pub refused_unless : (n m : ℕ) → n ≡ m → (n ≡ 0 → ⊥) → refused n ≡ unless m refused answer
  refused_unless n zero e h = absurd (h e)
  refused_unless n (suc m) e h = ap refused e

  pub given_unless : (m : ℕ) → m ≡ 0 → answer ≡ unless m refused answer
  given_unless zero e = refl
  given_unless (suc m) e = absurd (omega arith)

  pub by_unless : (P : A → Type 0) (n : ℕ) → (n ≡ 0 → P answer) → P (refused n) → P (unless n refused answer)
  by_unless P zero a r = a refl
  by_unless P (suc n) a r = r

-- what a length is, where its condition does not hold
pub length-is : (n k : ℕ) → not (eqb n k) ≡ false → n ≡ k
length-is n k e = eqb-true n k (not-false (eqb n k) e)

-- of two tests: both hold, or none does
pub both_true : (a b : Bool) → (a && b) ≡ true → (a ≡ true) × (b ≡ true)
both_true true b e = (refl, e)
both_true false b e = absurd (let z : ◌≡◌ {A = ℕ} 0 1 = cc in omega arith)

pub none_true : (a b : Bool) → (a || b) ≡ false → (a ≡ false) × (b ≡ false)
none_true true b e = absurd (let z : ◌≡◌ {A = ℕ} 0 1 = cc in omega arith)
none_true false b e = (refl, e)

-- canonical lists, one behind the other
pub canonical-append : (a b : List ℕ) → canonical (a ++ b) ≡ (canonical a && canonical b)
unfolding canonical
canonical-append [] b = refl
canonical-append (x ∷ a) b =
    ap (λ (k : Bool). ltb x p && k) (canonical-append a b) ∙ sym (and_assoc (ltb x p) (canonical a) (canonical b))

-- a part of canonical numbers is canonical
halves : (n : ℕ) (l : List ℕ) → canonical l ≡ true → (canonical (take n l) ≡ true) × (canonical (drop n l) ≡ true)
halves n l e = both_true _ _ (sym (canonical-append (take n l) (drop n l)) ∙ ap canonical (take-append-drop n l) ∙ e)

pub canonical-part : (k n : ℕ) (l : List ℕ) → canonical l ≡ true → canonical (take n (drop k l)) ≡ true
canonical-part k n l e = (halves n (drop k l) (halves k l e).1).0

-- canonical numbers are below p, at every place
pub canonical-below : (l : List ℕ) → canonical l ≡ true → (i : ℕ) → get_or l i 0 < p
unfolding canonical
canonical-below [] e i = lit< tt
canonical-below (x ∷ xs) e zero = ltb-true _ _ (both_true (ltb x p) (canonical xs) e).0
canonical-below (x ∷ xs) e (suc i) = canonical-below xs (both_true (ltb x p) (canonical xs) e).1 i

-- for an attribute, which names no lemma with a dash
pub ruleset below_p = (canonical-below)

pub ruleset appended = (canonical-append)

eqb_comm : (a b : ℕ) → eqb a b ≡ eqb b a
eqb_comm a b = go (eqb a b) refl
  where
    go : (t : Bool) → eqb a b ≡ t → t ≡ eqb b a
    go true e = sym (eq-eqb b a (sym (eqb-true a b e)))
    go false e = sym (ne_eqb b a (λ q. eqb-false a b e (sym q)))

-- a test over a list that goes by its elements: at the place i, and at the end
module _ (a : List ℕ) (i : ℕ) where
  pub front : i < length a → drop i a ≡ get_or a i 0 ∷ drop (i + 1) a
  front h = rw (add-one, drop-cons a i 0)

-- the numbers of the table are those of its lines
pub refusal-number : (r : Refusal) → refusal (number r) ≡ r
refusal-number RowLength = refl
refusal-number MaskCount = refl
refusal-number ValueBuffer = refl
refusal-number AlphaCount = refl
refusal-number MaskContents = refl
refusal-number RowContents = refl
refusal-number NotBelowP = refl
refusal-number FlagsNotPlain = refl
refusal-number FoldCount = refl

pub number_positive : (r : Refusal) → 0 < number r
number_positive RowLength = omega arith
number_positive MaskCount = omega arith
number_positive ValueBuffer = omega arith
number_positive AlphaCount = omega arith
number_positive MaskContents = omega arith
number_positive RowContents = omega arith
number_positive NotBelowP = omega arith
number_positive FlagsNotPlain = omega arith
number_positive FoldCount = omega arith

-- a call that one condition alone turns back: it holds, and its number is the answer's
pub one_refused : (c : Condition) (r : Refusal) → number r ≡ lowest (c ∷ []) → (c.holds ≡ true) × (number r ≡ c.number)
one_refused c r e = go c.holds e
  where
    go : (b : Bool) → number r ≡ cond b c.number 0 → (b ≡ true) × (number r ≡ c.number)
    go true e = (refl, e)
    go false e = absurd (omega (arith, number_positive r, e))

-- whether every number is canonical, and whether x is among the numbers, in the words of the library
pub canonical_fold : (b : Bool) (l : List ℕ) → fold (λ b x. b && ltb x p) b l ≡ (b && canonical l)
unfolding canonical
canonical_fold b [] = sym (and-true b)
canonical_fold b (x ∷ l) = canonical_fold (b && ltb x p) l ∙ and_assoc b (ltb x p) (canonical l)

pub member_any : (x : ℕ) (l : List ℕ) → list_any (λ y. eqb y x) l ≡ member x l
member_any x [] = refl
member_any x (y ∷ l) = ap (λ (b : Bool). b || list_any (λ y. eqb y x) l) (eqb_comm y x) ∙ ap (λ (b : Bool). eqb x y || b) (member_any x l)

-- no two numbers are equal, by the first of them and the rest, `[first, rest @ ..]`
pub distinct_first : (l : List ℕ) → 0 < length l
    → (distinct l ≡ distinct l) × (distinct l ≡ (not (list_any (λ y. eqb y (get_or l 0 0)) (take (length l - 1) (drop 1 l))) && distinct (take (length l - 1) (drop 1 l))))
unfolding distinct
distinct_first [] h = absurd (omega arith)
distinct_first (x ∷ l) h =
    rw (to_end 1 (x ∷ l)) (refl, ap (λ (b : Bool). not b && distinct l) (sym (member_any x l)))

-- every number is that of its line in the table: computed, and so shown by `tt`
abbrev pub listed : List Condition → Bool
listed [] = true
listed (c ∷ cs) = eqb (number (refusal c.number)) c.number && listed cs

-- the number of an answer that is refused with a number of the table, or given
module _ {A : Type 0} (a : A) where
  number_of-own : (n : ℕ) → number (refusal n) ≡ n → number_of (unless n refused (Ok a)) ≡ n
  number_of-own zero e = refl
  number_of-own (suc n) e = e

  pub number_of-unless : (cs : List Condition) → T (listed cs) → number_of (unless (lowest cs) refused (Ok a)) ≡ lowest cs
  number_of-unless [] t = refl
  number_of-unless (c ∷ cs) t =
      let s = and_T (eqb (number (refusal c.number)) c.number) (listed cs) t in
      go c.holds (eqb_yes s.0) (number_of-unless cs s.1)
    where
      go : (b : Bool) {n m : ℕ} → number (refusal n) ≡ n → number_of (unless m refused (Ok a)) ≡ m →
          number_of (unless (cond b n m) refused (Ok a)) ≡ cond b n m
      go true e f = number_of-own _ e
      go false e f = f

-- what is given was not refused
pub given-is : {A : Type 0} (n : ℕ) (a b : A) → unless n refused (Ok a) ≡ Ok b → (n ≡ 0) × (a ≡ b)
given-is zero a b e = (refl, ap (ok a) e)
  where
    ok : {A : Type 0} → A → Result A Refusal → A
    ok d (Ok x) = x
    ok d (Err r) = d
given-is (suc n) a b e = absurd (omega (arith, number_positive (refusal (suc n)), ap number_of e))
