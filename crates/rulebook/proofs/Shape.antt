-- Numbers that are 0 or 1, of which at most one is 1: each is told by the place of the first 1, and their sum is their count.
use mathlib.Core.Path.{◌≡◌, refl, sym, ap, ◌∙◌}
use mathlib.Core.Logic.{◌⊎◌, inl, inr}
use Prim.Native.Nat.{ℕ, zero, suc, ◌+◌, ◌<◌, ◌≤◌}
use native.Mathlib.Nat.{eq-or-lt_of_le, add-zero, add-suc, suc-add}
use native.Mathlib.Omega.{arith}
use borrow.Author.Tests.{eq-eqb, ne_eqb}
use Rattle.rulebook.specs.Kind.{ones, first_one}
use Rattle.rulebook.proofs.Split.{chosen}

chosen_other : (i j : ℕ) → (i ≡ j → ⊥) → chosen i j ≡ 0
chosen_other i j n = rw (ne_eqb i j n)

chosen_same : (i j : ℕ) → i ≡ j → chosen i j ≡ 1
chosen_same i j e = rw (eq-eqb i j e)

module _ (g : ℕ → ℕ) where
  abbrev pub Bit : ℕ → Type 0
  Bit i = (g i ≡ 0) ⊎ (g i ≡ 1)

  abbrev pub Bits : ℕ → ℕ → Type 0
  Bits a n = (i : ℕ) → a ≤ i → i < a + n → Bit i

  ones-first : (a n : ℕ) → Bit a → ones g a (suc n) ≡ g a + ones g (suc a) n
  unfolding ones
  ones-first a n (inl e) = rw e refl
  ones-first a n (inr e) = rw e refl

  first-zero : (a n : ℕ) → g a ≡ 0 → first_one g a (suc n) ≡ suc (first_one g (suc a) n)
  unfolding first_one
  first-zero a n e = rw e refl

  first_one_lem : (a n : ℕ) → g a ≡ 1 → first_one g a (suc n) ≡ 0
  unfolding first_one
  first_one_lem a n e = rw e refl

  rest : (a n : ℕ) → Bits a (suc n) → Bits (suc a) n
  rest a n b i l u = b i (omega arith) (omega arith)

  -- no 1 among them: each is 0
  none : (n a : ℕ) → Bits a n → ones g a n ≡ 0 → (i : ℕ) → a ≤ i → i < a + n → g i ≡ 0
  none zero a b e i l u = absurd (omega arith)
  none (suc n) a b e i l u =
      let h : ones g a (suc n) ≡ g a + ones g (suc a) n = ones-first a n (b a (omega arith) (omega arith)) in
      go (eq-or-lt_of_le l) (λ v. none n (suc a) (rest a n b) (omega arith) i v (omega arith)) (omega arith)
    where
      go : (a ≡ i) ⊎ (a < i) → (a < i → g i ≡ 0) → g a ≡ 0 → g i ≡ 0
      go (inl c) k o = sym (ap g c) ∙ o
      go (inr c) k o = k c

  pub first-le : (n a : ℕ) → Bits a n → first_one g a n < suc n
  unfolding first_one
  first-le zero a b = omega arith
  first-le (suc n) a b = go (b a (omega arith) (omega arith)) (first-le n (suc a) (rest a n b))
    where
      go : Bit a → first_one g (suc a) n < suc n → first_one g a (suc n) < suc (suc n)
      go (inl o) h = omega (arith, first-zero a n o)
      go (inr o) h = omega (arith, first_one_lem a n o)

  pub first-lt : (n a : ℕ) → Bits a n → ones g a n ≡ 1 → first_one g a n < n
  unfolding ones
  first-lt zero a b e = absurd (omega arith)
  first-lt (suc n) a b e =
      let h : ones g a (suc n) ≡ g a + ones g (suc a) n = ones-first a n (b a (omega arith) (omega arith)) in
      go (b a (omega arith) (omega arith)) (λ o. first-lt n (suc a) (rest a n b) (omega arith))
    where
      go : Bit a → (g a ≡ 0 → first_one g (suc a) n < n) → first_one g a (suc n) < suc n
      go (inl o) k = omega (arith, first-zero a n o, k o)
      go (inr o) k = omega (arith, first_one_lem a n o)

  pub told : (n a : ℕ) → Bits a n → ones g a n ≤ 1 → (i : ℕ) → a ≤ i → i < a + n → g i ≡ chosen i (a + first_one g a n)
  told zero a b o i l u = absurd (omega arith)
  told (suc n) a b o i l u =
      let h : ones g a (suc n) ≡ g a + ones g (suc a) n = ones-first a n (b a (omega arith) (omega arith)) in
      go (b a (omega arith) (omega arith)) (eq-or-lt_of_le l) h
      (λ v. told n (suc a) (rest a n b) (omega arith) i v (omega arith))
    where
      go : Bit a → (a ≡ i) ⊎ (a < i) → ones g a (suc n) ≡ g a + ones g (suc a) n
          → (a < i → g i ≡ chosen i (suc a + first_one g (suc a) n)) → g i ≡ chosen i (a + first_one g a (suc n))
      go (inl e) (inl c) h k = sym (ap g c) ∙ e ∙ sym (chosen_other i (a + first_one g a (suc n)) (λ q. omega (arith, first-zero a n e, q)))
      go (inl e) (inr c) h k =
          let q : suc a + first_one g (suc a) n ≡ a + first_one g a (suc n) = omega (arith, first-zero a n e) in
          k c ∙ ap (chosen i) q
      go (inr e) (inl c) h k = sym (ap g c) ∙ e ∙ sym (chosen_same i (a + first_one g a (suc n)) (omega (arith, first_one_lem a n e)))
      go (inr e) (inr c) h k =
          none n (suc a) (rest a n b) (omega arith) i c (omega arith)
          ∙ sym (chosen_other i (a + first_one g a (suc n)) (λ q. omega (arith, first_one_lem a n e, q)))

  pub ones-le : (n a : ℕ) → Bits a n → ones g a n ≤ n
  unfolding ones
  ones-le zero a b = omega arith
  ones-le (suc n) a b = go (b a (omega arith) (omega arith)) (ones-le n (suc a) (rest a n b))
    where
      go : Bit a → ones g (suc a) n ≤ n → ones g a (suc n) ≤ suc n
      go (inl o) h = omega (arith, ones-first a n (inl o))
      go (inr o) h = omega (arith, ones-first a n (inr o))

  -- counted from the other end
  pub ones-last : (n a : ℕ) → Bits a (suc n) → ones g a (suc n) ≡ ones g a n + g (a + n)
  unfolding ones
  ones-last zero a b = ones-first a zero (b a (omega arith) (omega arith)) ∙ rw (add-zero a) (omega arith)
  ones-last (suc n) a b =
      let h : ones g a (suc (suc n)) ≡ g a + ones g (suc a) (suc n) = ones-first a (suc n) (b a (omega arith) (omega arith)) in
      let k : ones g a (suc n) ≡ g a + ones g (suc a) n = ones-first a n (b a (omega arith) (omega arith)) in
      let q : ones g (suc a) (suc n) ≡ ones g (suc a) n + g (a + suc n) =
      rw (add-suc a n) (rw (suc-add a n) at (ones-last n (suc a) (rest a (suc n) b))) in
      omega arith
