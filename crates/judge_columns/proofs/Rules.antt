-- What a rule and a sentence say, as the code computes it. The definition stands on the left, so that `search` fits a law by its head.
use mathlib.Core.Path.{◌≡◌, refl, sym, ap, ap₂, ◌∙◌}
use mathlib.Core.Bool.{Bool, false, not, ◌&&◌, ◌||◌, and-true, and_assoc, or-false, or_assoc, not-not}
use mathlib.Core.List.{List, [], ◌∷◌, ◌++◌}
use Prim.Native.Nat.{ℕ, ◌%◌}
use lib.Dec.{eqb, leb}
use Rattle.algebra.specs.Prime.{p}
use Rattle.algebra.specs.Expr.{Expr, var, con, ◌⊕◌, ◌⊖◌, ◌⊗◌, eval}
use Rattle.residue.specs.Residues.{residues, add_p, neg_p, sub_p, mul_p}
use Rattle.table.specs.Cells.{Cell}
use Rattle.rulebook.specs.Words.{bit}
use Rattle.rulebook.specs.Rule.{Rule, fact, ◌≐◌, deny, ◌and◌, ◌or◌, ◌⇒◌, Sentence, always, [t], [f], holds, keeps_sentence, keeps_all}

-- b and every one of several, from the left as the code has them and from the right as the rules have them
abbrev pub left_and : Bool → List Bool → Bool
left_and b [] = b
left_and b (c ∷ cs) = left_and (b && c) cs

abbrev right_and : Bool → List Bool → Bool
right_and b [] = b
right_and b (c ∷ cs) = b && right_and c cs

and_left : (b : Bool) (cs : List Bool) → right_and b cs ≡ left_and b cs
and_left b [] = refl
and_left b (c ∷ []) = refl
and_left b (c ∷ (d ∷ ds)) = sym (and_assoc b c (right_and d ds)) ∙ and_left (b && c) (d ∷ ds)

module _ (x : Cell → ℕ) where
  -- an equation and a test of two numbers, which a call answers
  pub equal_of : (a b : Expr Cell) {u v : ℕ} {r : Bool} → r ≡ eqb (u % p) (v % p) → eval residues x a ≡ u → eval residues x b ≡ v → holds x (a ≐ b) ≡ r
  unfolding holds
  equal_of a b h d e = ap₂ (λ (s t : ℕ). eqb (s % p) (t % p)) d e ∙ sym h

  pub bit_of : (a : Expr Cell) {u : ℕ} {r : Bool} → r ≡ (eqb (u % p) 0 || eqb (u % p) 1) → eval residues x a ≡ u → holds x (bit a) ≡ r
  unfolding holds eval
  bit_of a h d = ap (λ (s : ℕ). eqb (s % p) 0 || eqb (s % p) 1) d ∙ sym h

  -- a rule that a call answers as it stands
  pub told : (r : Rule) {a : Bool} → a ≡ holds x r → holds x r ≡ a
  told r h = sym h

  -- the value of an expression, from what calls give
  pub var_of : (c : Cell) {v : ℕ} → v ≡ x c → eval residues x (var c) ≡ v
  unfolding eval
  var_of c e = sym e

  pub con_of : (n : ℕ) {v : ℕ} → v ≡ n → eval residues x (con n) ≡ v
  unfolding eval
  con_of n e = sym e

  pub sum_of : (a b : Expr Cell) {u v r : ℕ} → r ≡ add_p u v → eval residues x a ≡ u → eval residues x b ≡ v → eval residues x (a ⊕ b) ≡ r
  unfolding eval
  sum_of a b h d e = ap₂ add_p d e ∙ sym h

  pub difference_of : (a b : Expr Cell) {u v r : ℕ} → r ≡ sub_p u v → eval residues x a ≡ u → eval residues x b ≡ v → eval residues x (a ⊖ b) ≡ r
  unfolding eval sub_p
  difference_of a b h d e = ap₂ (λ (s t : ℕ). add_p s (neg_p t)) d e ∙ sym h

  pub product_of : (a b : Expr Cell) {u v r : ℕ} → r ≡ mul_p u v → eval residues x a ≡ u → eval residues x b ≡ v → eval residues x (a ⊗ b) ≡ r
  unfolding eval
  product_of a b h d e = ap₂ mul_p d e ∙ sym h

  pub value_told : (a : Expr Cell) {r : ℕ} → r ≡ eval residues x a → eval residues x a ≡ r
  value_told a h = sym h

  pub fact_of : (b : Bool) {a : Bool} → b ≡ a → holds x (fact b) ≡ a
  unfolding holds
  fact_of b e = e

  pub fact_told : (b : Bool) {a : Bool} → a ≡ b → holds x (fact b) ≡ a
  unfolding holds
  fact_told b e = sym e

  pub deny_of : (r : Rule) {a : Bool} → holds x r ≡ a → holds x (deny r) ≡ not a
  unfolding holds
  deny_of r e = ap not e

  pub and_of : (r s : Rule) {a b : Bool} → holds x r ≡ a → holds x s ≡ b → holds x (r and s) ≡ (a && b)
  unfolding holds
  and_of r s d e = ap₂ ◌&&◌ d e

  pub or_of : (r s : Rule) {a b : Bool} → holds x r ≡ a → holds x s ≡ b → holds x (r or s) ≡ (a || b)
  unfolding holds
  or_of r s d e = ap₂ ◌||◌ d e

  pub implies_of : (r s : Rule) {a b : Bool} → holds x r ≡ a → holds x s ≡ b → holds x (r ⇒ s) ≡ (not a || b)
  unfolding holds
  implies_of r s d e = ap₂ (λ (i j : Bool). not i || j) d e

  -- "unless r, s"
  pub unless_of : (r s : Rule) {a b : Bool} → holds x r ≡ a → holds x s ≡ b → holds x (deny r ⇒ s) ≡ (a || b)
  unfolding holds
  unless_of r s d e = ap₂ (λ (i j : Bool). i || j) (not-not _ ∙ d) e

  -- several rules, as the code has them
  module _ (r s t : Rule) {a b c : Bool} (d : holds x r ≡ a) (e : holds x s ≡ b) (f : holds x t ≡ c) where
    pub and3_of : holds x (r and (s and t)) ≡ ((a && b) && c)
    unfolding holds
    and3_of = rw (d, e, f) (and_left a (b ∷ c ∷ []))

    module _ (r₄ : Rule) {a₄ : Bool} (d₄ : holds x r₄ ≡ a₄) where
      pub and4_of : holds x (r and (s and (t and r₄))) ≡ (((a && b) && c) && a₄)
      unfolding holds
      and4_of = rw (d, e, f, d₄) (and_left a (b ∷ c ∷ a₄ ∷ []))

      module _ (r₅ : Rule) {a₅ : Bool} (d₅ : holds x r₅ ≡ a₅) where
        pub and5_of : holds x (r and (s and (t and (r₄ and r₅)))) ≡ ((((a && b) && c) && a₄) && a₅)
        unfolding holds
        and5_of = rw (d, e, f, d₄, d₅) (and_left a (b ∷ c ∷ a₄ ∷ a₅ ∷ []))

        module _ (r₆ : Rule) {a₆ : Bool} (d₆ : holds x r₆ ≡ a₆) where
          pub and6_of : holds x (r and (s and (t and (r₄ and (r₅ and r₆))))) ≡ (((((a && b) && c) && a₄) && a₅) && a₆)
          unfolding holds
          and6_of = rw (d, e, f, d₄, d₅, d₆) (and_left a (b ∷ c ∷ a₄ ∷ a₅ ∷ a₆ ∷ []))

  module _ (first last : Bool) where
    pub always_of : (r : Rule) {a : Bool} → holds x r ≡ a → keeps_sentence x first last (always r) ≡ a
    unfolding keeps_sentence
    always_of r e = e

    pub transition_of : (r : Rule) {a : Bool} → holds x r ≡ a → keeps_sentence x first last ([t] r) ≡ (last || a)
    unfolding keeps_sentence
    transition_of r e = ap (λ (b : Bool). last || b) e

    pub first_of : (r : Rule) {a : Bool} → holds x r ≡ a → keeps_sentence x first last ([f] r) ≡ (not first || a)
    unfolding keeps_sentence
    first_of r e = ap (λ (b : Bool). not first || b) e

    abbrev pub kepts : List Sentence → List Bool
    kepts [] = []
    kepts (s ∷ ss) = keeps_sentence x first last s ∷ kepts ss

    keeps-left : (b : Bool) (ss : List Sentence) → (b && keeps_all x first last ss) ≡ left_and b (kepts ss)
    unfolding keeps_all
    keeps-left b [] = and-true b
    keeps-left b (s ∷ ss) = sym (and_assoc b (keeps_sentence x first last s) (keeps_all x first last ss)) ∙ keeps-left (b && keeps_sentence x first last s) ss

    pub keeps : (s : Sentence) (ss : List Sentence) → keeps_all x first last (s ∷ ss) ≡ left_and (keeps_sentence x first last s) (kepts ss)
    unfolding keeps_all
    keeps s ss = keeps-left (keeps_sentence x first last s) ss

    -- sentences one after the other
    pub keeps-append : (ss ts : List Sentence) → keeps_all x first last (ss ++ ts) ≡ (keeps_all x first last ss && keeps_all x first last ts)
    unfolding keeps_all
    keeps-append [] ts = refl
    keeps-append (s ∷ ss) ts =
        ap (λ (b : Bool). keeps_sentence x first last s && b) (keeps-append ss ts)
        ∙ sym (and_assoc (keeps_sentence x first last s) (keeps_all x first last ss) (keeps_all x first last ts))

    abbrev pub joined : List Sentence → List (List Sentence) → List Sentence
    joined ss [] = ss
    joined ss (ts ∷ us) = joined (ss ++ ts) us

    abbrev pub kept-each : List (List Sentence) → List Bool
    kept-each [] = []
    kept-each (ss ∷ ts) = keeps_all x first last ss ∷ kept-each ts

    pub keeps_joined : (ss : List Sentence) (ts : List (List Sentence)) → keeps_all x first last (joined ss ts) ≡ left_and (keeps_all x first last ss) (kept-each ts)
    keeps_joined ss [] = refl
    keeps_joined ss (ts ∷ us) = keeps_joined (ss ++ ts) us ∙ ap (λ (b : Bool). left_and b (kept-each us)) (keeps-append ss ts)

pub both : {a b c d : Bool} → a ≡ c → b ≡ d → (a && b) ≡ (c && d)
both e f = ap₂ ◌&&◌ e f

-- one of two kinds
pub among_two : {i j a b : Bool} → a ≡ i → b ≡ j → (i || (j || false)) ≡ (a || b)
among_two e f = ap₂ ◌||◌ (sym e) (or-false _ ∙ sym f)

-- equal numbers pass a test alike
pub eqb_of : (n : ℕ) {a b : ℕ} → b ≡ a → eqb a n ≡ eqb b n
eqb_of n e = ap (λ (k : ℕ). eqb k n) (sym e)

pub leb_of : (n : ℕ) {a b : ℕ} → b ≡ a → leb a n ≡ leb b n
leb_of n e = ap (λ (k : ℕ). leb k n) (sym e)

pub ruleset exprs = (value_told, sum_of, difference_of, product_of, var_of, con_of)

pub ruleset rules = (always_of, transition_of, first_of, told, bit_of, equal_of, deny_of, and_of, or_of, unless_of, implies_of, fact_told, fact_of, among_two, both)

-- for rules with more than two parts, and for counts
pub ruleset chains = (and3_of, and4_of, and5_of, and6_of)

pub ruleset counts = (eqb_of, leb_of)

-- how the code and the rulebook group tests
pub ruleset bools = (and_assoc, and-true, or_assoc, or-false, not-not)
