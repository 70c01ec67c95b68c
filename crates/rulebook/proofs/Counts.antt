-- What rules and values tell of bits and of how many are 1.
use mathlib.Core.Path.{◌≡◌, refl, sym, ap, ◌∙◌}
use mathlib.Core.Logic.{◌⊎◌, inl, inr}
use mathlib.Core.Bool.{Bool, true, not, ◌||◌, true≢false}
use mathlib.Core.List.{List, [], ◌∷◌}
use Prim.Native.Nat.{ℕ, zero, suc, ◌+◌, ◌<◌, ◌≤◌}
use native.Mathlib.Nat.{eq-or-lt_of_le}
use native.Mathlib.Omega.{arith}
use lib.Dec.{eqb, lit<}
use borrow.Author.Tests.{eqb-true}
use Rattle.algebra.specs.Prime.{p}
use Rattle.algebra.specs.Lists.{All, Mem, range}
use Rattle.algebra.specs.Field.{𝔾}
use Rattle.algebra.specs.Expr.{Expr, var, con, ◌⊖◌, eval}
use Rattle.algebra.proofs.Ring.{nat-add, eq_of_sub}
use Rattle.algebra.proofs.Field.{𝔾_is_ring, eq_of_nat}
use Rattle.table.specs.Cells.{Cell, local, lv}
use Rattle.table.specs.Entry.{plus_all, sum}
use Rattle.rulebook.specs.Rule.{Rule, ◌≐◌, ◌and◌, ◌⇒◌, holds}
use Rattle.rulebook.specs.Kind.{ones}
use Rattle.rulebook.specs.Words.{every, some, bit}
use Rattle.rulebook.specs.Plain.{bits}
use Rattle.rulebook.proofs.Tests.{and_left, and_right, or_cases, not_both, same-eq, eq-same}
use Rattle.rulebook.proofs.Values.{env, equation_is}
use Rattle.rulebook.proofs.Shape.{Bit, Bits, ones-le, ones-last}

-- what holds of every number of a range holds of each
pub range_at : (P : ℕ → Type 0) (n a : ℕ) → All P (range a n) → (i : ℕ) → a ≤ i → i < a + n → P i
range_at P zero a h i l u = absurd (omega arith)
range_at P (suc n) a h i l u = go (eq-or-lt_of_le l) (λ v. range_at P n (suc a) h.1 i v (omega arith))
  where
    go : (a ≡ i) ⊎ (a < i) → (a < i → P i) → P i
    go (inl e) k = rw (← e) h.0
    go (inr v) k = k v

pub bits_are : (g : ℕ → ℕ) (cs : List ℕ) → bits g cs ≡ true → All (Bit g) cs
unfolding bits
bits_are g [] h = tt
bits_are g (c ∷ cs) h =
    let b : Bool = eqb (g c) 0 || eqb (g c) 1 in (
      or_cases (eqb (g c) 0) (eqb (g c) 1) (and_left _ _ h) (λ t. inl (eqb-true _ 0 t)) (λ t. inr (eqb-true _ 1 t)),
      bits_are g cs (and_right b _ h),
    )

module _ (x : Cell → ℕ) where
  -- an equation that holds, in the field; what an implication, every and some rule tell
  pub equal : (a b : Expr Cell) → holds x (a ≐ b) ≡ true → eval 𝔾 (env x) a ≡ eval 𝔾 (env x) b
  equal a b h = same-eq _ _ (sym (equation_is x a b) ∙ h)

  pub implies : (r s : Rule) → holds x (r ⇒ s) ≡ true → holds x r ≡ true → holds x s ≡ true
  unfolding holds
  implies r s h t = or_cases (not (holds x r)) (holds x s) h (λ n. absurd (not_both _ n t)) (λ u. u)

  pub both_hold : (r s : Rule) → holds x (r and s) ≡ true → (holds x r ≡ true) × (holds x s ≡ true)
  unfolding holds
  both_hold r s h = (and_left _ _ h, and_right (holds x r) _ h)

  pub every-are : (is : List ℕ) (f : ℕ → Rule) → holds x (every is f) ≡ true → All (λ i. holds x (f i) ≡ true) is
  unfolding holds
  every-are [] f h = tt
  every-are (i ∷ is) f h = (and_left _ _ h, every-are is f (and_right (holds x (f i)) _ h))

  pub some_is : (js : List ℕ) (f : ℕ → Rule) → holds x (some js f) ≡ true → (j : ℕ) × Mem j js × (holds x (f j) ≡ true)
  unfolding holds
  some_is [] f h = absurd (true≢false (sym h))
  some_is (j ∷ js) f h =
      or_cases (holds x (f j)) (holds x (some js f)) h (λ t. (j, inl refl, t))
      (λ t. let r : (i : ℕ) × Mem i js × (holds x (f i) ≡ true) = some_is js f t in (r.0, inr r.1, r.2))

  module _ (canon : (c : Cell) → x c < p) where
    abbrev current : ℕ → ℕ
    current c = x (local c)

    -- a cell that equals a number
    pub cell_is-number : (c : Cell) (n : ℕ) → n < p → holds x (var c ≐ con n) ≡ true → x c ≡ n
    unfolding eval
    cell_is-number c n l h = eq_of_nat (x c) n (canon c) l (equal (var c) (con n) h)

    pub number-holds : (c : Cell) (n : ℕ) → x c ≡ n → holds x (var c ≐ con n) ≡ true
    unfolding eval
    number-holds c n e = equation_is x (var c) (con n) ∙ eq-same _ _ (ap 𝔾.nat e)

    pub bit_is : (c : ℕ) → holds x (bit (lv c)) ≡ true → Bit current c
    unfolding holds
    bit_is c h =
        or_cases (holds x (lv c ≐ con 0)) (holds x (lv c ≐ con 1)) h (λ t. inl (cell_is-number (local c) 0 (lit< tt) t))
        (λ t. inr (cell_is-number (local c) 1 (lit< tt) t))

    pub bits_of : (n a : ℕ) → holds x (every (range a n) (λ c. bit (lv c))) ≡ true → Bits current a n
    bits_of n a h i l u =
        bit_is i (range_at (λ c. holds x (bit (lv c)) ≡ true) n a (every-are (range a n) (λ c. bit (lv c)) h) i l u)

    -- the sum of bits is their count, so that a sum of 1 is a count of 1, and a sum of 0 a count of 0
    sum_is : (n a : ℕ) → Bits current a n → eval 𝔾 (env x) (sum (λ i. lv (a + i)) n) ≡ 𝔾.nat (ones current a n)
    unfolding eval plus_all ones
    sum_is zero a b = refl
    sum_is (suc n) a b =
        ap (λ t. 𝔾.add t (env x (local (a + n)))) (sum_is n a (λ i l u. b i l (omega arith)))
        ∙ sym (nat-add 𝔾 𝔾_is_ring (ones current a n) (x (local (a + n))))
        ∙ ap 𝔾.nat (sym (ones-last current n a b))

    module _ (n a : ℕ) (l : n < 100) (b : Bits current a n) where
      pub one_of_sum : eval 𝔾 (env x) (con 1 ⊖ sum (λ i. lv (a + i)) n) ≡ 𝔾.zero → ones current a n ≡ 1
      unfolding eval
      one_of_sum e =
          let u : ones current a n ≤ n = ones-le current n a b in
          sym (eq_of_nat 1 (ones current a n) (lit< tt) (omega arith) (eq_of_sub 𝔾 𝔾_is_ring _ _ e ∙ sum_is n a b))

      pub none_of_sum : eval 𝔾 (env x) (sum (λ i. lv (a + i)) n) ≡ 𝔾.zero → ones current a n ≡ 0
      none_of_sum e =
          let u : ones current a n ≤ n = ones-le current n a b in
          eq_of_nat (ones current a n) 0 (omega arith) (lit< tt) (sym (sum_is n a b) ∙ e ∙ sym 𝔾_is_ring.nat-zero)
