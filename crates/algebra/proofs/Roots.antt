-- The root bound, over any integral domain: a list with an element that is not zero is folded from zero to zero by fewer alphas
-- than it is long. A list is read as a polynomial, highest coefficient first, and its fold from zero as the value at α.
use mathlib.Core.Path.{◌≡◌, refl, sym, ap, ◌∙◌}
use mathlib.Core.Logic.{◌⊎◌, inl, inr, ◌≢◌}
use mathlib.Core.List.{List, [], ◌∷◌, ◌++◌}
use Prim.Native.Nat.{suc, ◌≤◌, ◌<◌}
use native.Mathlib.Nat.{not-suc-le-zero, le_of_suc-le-suc, lt_of_not-le}
use lib.ListN.{length}
use Rattle.algebra.specs.Ring.{Ops, IsDomain}
use Rattle.algebra.specs.Lists.{All, Mem, NoDup}
use Rattle.algebra.specs.Fold.{fold}
use Rattle.algebra.proofs.Ring.{ring_laws, zero-mul, zero-add, add-zero, eq_of_sub}
use Rattle.algebra.proofs.Lists.{all_map}

-- a fold goes through the one list and then through the other
module _ (R : Ops) (α : R.F) where
  pub fold-append : (a : R.F) (cs ds : List R.F) → fold R α a (cs ++ ds) ≡ fold R α (fold R α a cs) ds
  unfolding fold
  fold-append a [] ds = refl
  fold-append a (c ∷ cs) ds = fold-append (R.add (R.mul a α) c) cs ds

  -- the accumulators but the last: the quotient of (a ∷ cs) by X - α
  quotient : R.F → List R.F → List R.F
  quotient a [] = []
  quotient a (c ∷ cs) = a ∷ quotient (R.add (R.mul a α) c) cs

module _ (R : Ops) (D : IsDomain R) where
  open R use {F, zero as 𝟘, add as ◌+◌, neg as -◌, mul as ◌*◌}

  infixl 65 ◌+◌
  infixl 70 ◌*◌
  infix 75 -◌
  step_identity : (e a x α c : F) → (e * (x + - α) + a) * x + c ≡ (e * x + a) * (x + - α) + (a * α + c)
  step_identity e a x α c = simp (ring_laws, D.is_ring)

  -- division by X - α, from any start e of the quotient's fold
  division : (α x e a : F) (cs : List F)
      → fold R x (e * (x + - α) + a) cs ≡ (x + - α) * fold R x e (quotient R α a cs) + fold R α a cs
  unfolding fold quotient
  division α x e a [] = ap (λ t. t + a) (D.is_ring.mul_comm e (x + - α))
  division α x e a (c ∷ cs) =
      ap (λ t. fold R x t cs) (step_identity e a x α c) ∙ division α x (e * x + a) (a * α + c) cs

  divided : (α x a : F) (cs : List F)
      → fold R x a cs ≡ (x + - α) * fold R x 𝟘 (quotient R α a cs) + fold R α a cs
  divided α x a cs =
      ap (λ t. fold R x t cs) (sym (simp (ring_laws, D.is_ring))) ∙ division α x 𝟘 a cs

  -- a root other than α is a root of the quotient
  root_of_quotient : (α x a : F) (cs : List F) → x ≢ α → fold R α a cs ≡ 𝟘 → fold R x a cs ≡ 𝟘
      → fold R x 𝟘 (quotient R α a cs) ≡ 𝟘
  root_of_quotient α x a cs ne rα rx =
      other (D.mul-eq-zero (x + - α) (fold R x 𝟘 (quotient R α a cs))
      (sym (add-zero R D.is_ring _) ∙ ap (λ t. (x + - α) * fold R x 𝟘 (quotient R α a cs) + t) (sym rα) ∙ sym (divided α x a cs) ∙ rx))
    where
      other : (x + - α ≡ 𝟘) ⊎ (fold R x 𝟘 (quotient R α a cs) ≡ 𝟘) → fold R x 𝟘 (quotient R α a cs) ≡ 𝟘
      other (inl e) = absurd (ne (eq_of_sub R D.is_ring x α e))
      other (inr e) = e

  roots_of_quotient : (α a : F) (cs xs : List F) → All (λ y. α ≢ y) xs → fold R α a cs ≡ 𝟘
      → All (λ x. fold R x a cs ≡ 𝟘) xs → All (λ x. fold R x 𝟘 (quotient R α a cs) ≡ 𝟘) xs
  roots_of_quotient α a cs [] n rα rs = tt
  roots_of_quotient α a cs (x ∷ xs) n rα rs =
      (root_of_quotient α x a cs (λ e. n.0 (sym e)) rα rs.0, roots_of_quotient α a cs xs n.1 rα rs.1)

  -- a quotient of zeros, with no remainder, is of a list of zeros
  zeros_of_quotient : (α a : F) (cs : List F) → All (λ c. c ≡ 𝟘) (quotient R α a cs) → fold R α a cs ≡ 𝟘
      → All (λ c. c ≡ 𝟘) (a ∷ cs)
  unfolding fold quotient
  zeros_of_quotient α a [] z r = (r, tt)
  zeros_of_quotient α a (c ∷ cs) z r =
      let rest : All (λ c. c ≡ 𝟘) ((a * α + c) ∷ cs) = zeros_of_quotient α (a * α + c) cs z.1 r in
      (z.0, (cc (z.0, rest.0, zero-mul R D.is_ring α, zero-add R D.is_ring c), rest.1))

  length_quotient : (α a : F) (cs : List F) → length (quotient R α a cs) ≡ length cs
  unfolding quotient
  length_quotient α a [] = refl
  length_quotient α a (c ∷ cs) = ap suc (length_quotient α (a * α + c) cs)

  fold-first : (α c : F) (cs : List F) → fold R α 𝟘 (c ∷ cs) ≡ fold R α c cs
  unfolding fold
  fold-first α c cs = ap (λ t. fold R α t cs) (cc (zero-mul R D.is_ring α, zero-add R D.is_ring c))

  -- as many distinct alphas as values, each folding to zero, force every value to be zero
  pub zeros_of_roots : (αs cs : List F) → NoDup αs → length cs ≤ length αs → All (λ α. fold R α 𝟘 cs ≡ 𝟘) αs
      → All (λ c. c ≡ 𝟘) cs
  zeros_of_roots [] [] n l r = tt
  zeros_of_roots (α ∷ αs) [] n l r = tt
  zeros_of_roots [] (c ∷ cs) n l r = absurd (not-suc-le-zero l)
  zeros_of_roots (α ∷ αs) (c ∷ cs) n l r =
      let at_first : (β : F) → fold R β 𝟘 (c ∷ cs) ≡ 𝟘 → fold R β c cs ≡ 𝟘 = λ β e. sym (fold-first β c cs) ∙ e in
      zeros_of_quotient α c cs
      (zeros_of_roots αs (quotient R α c cs) n.1 (rw (length_quotient α c cs) (le_of_suc-le-suc l))
      (roots_of_quotient α c cs αs n.0 (at_first α r.0) (all_map at_first αs r.1)))
      (at_first α r.0)

  not_zeros : (cs : List F) (c : F) → Mem c cs → c ≢ 𝟘 → ¬ All (λ d. d ≡ 𝟘) cs
  not_zeros [] c m n h = absurd m
  not_zeros (d ∷ cs) c (inl e) n h = n (e ∙ h.0)
  not_zeros (d ∷ cs) c (inr m) n h = not_zeros cs c m n h.1

  pub root_bound : (αs cs : List F) (c : F) → Mem c cs → c ≢ 𝟘 → NoDup αs → All (λ α. fold R α 𝟘 cs ≡ 𝟘) αs
      → length αs < length cs
  root_bound αs cs c m n d r = lt_of_not-le (λ l. not_zeros cs c m n (zeros_of_roots αs cs d l r))

  -- a list of zeros is folded from zero to zero by every alpha
  pub fold-zeros : (α : F) (cs : List F) → All (λ c. c ≡ 𝟘) cs → fold R α 𝟘 cs ≡ 𝟘
  unfolding fold
  fold-zeros α [] z = refl
  fold-zeros α (c ∷ cs) z =
      ap (λ t. fold R α t cs) (cc (z.0, zero-mul R D.is_ring α, zero-add R D.is_ring 𝟘)) ∙ fold-zeros α cs z.1
