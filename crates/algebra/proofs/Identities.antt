-- How an identity of a ring is proved. Up to some ten products: `simp (ring_laws, L)`. Any other: `solve`, which computes; the goal is
-- written out beside two expressions in the same order, under `unfolding eval`.
use mathlib.Core.Path.{◌≡◌}
use mathlib.Core.List.{[], ◌∷◌}
use Rattle.algebra.specs.Ring.{Ops, IsRing}
use Rattle.algebra.specs.Expr.{var, ◌⊕◌, ◌⊖◌, ◌⊗◌, eval}
use Rattle.algebra.proofs.Ring.{ring_laws}
use Rattle.algebra.proofs.Solve.{solve}

module _ (R : Ops) (L : IsRing R) where
  open R use {F, add as ◌+◌, neg as -◌, mul as ◌*◌}

  infixl 65 ◌+◌
  infixl 70 ◌*◌
  infix 75 -◌
  square_of_sum : (a b : F) → (a + b) * (a + b) ≡ a * a + (a * b + a * b) + b * b
  square_of_sum a b = simp (ring_laws, L)

  difference_of_squares : (a b c d : F) → (a + - b) * (c + - d) * (a + b) ≡ (c + - d) * (a * a) + - ((c + - d) * (b * b))
  unfolding eval
  difference_of_squares a b c d =
      solve R L (a ∷ b ∷ c ∷ d ∷ [])
      ((var 0 ⊖ var 1) ⊗ (var 2 ⊖ var 3) ⊗ (var 0 ⊕ var 1)) ((var 2 ⊖ var 3) ⊗ (var 0 ⊗ var 0) ⊖ (var 2 ⊖ var 3) ⊗ (var 1 ⊗ var 1)) tt

  -- 27 products on each side
  three_sums : (a b c d e f g h i : F) → (a + b + c) * (d + e + f) * (g + h + i) ≡ (h + g + i) * (f + d + e) * (c + b + a)
  unfolding eval
  three_sums a b c d e f g h i =
      solve R L (a ∷ b ∷ c ∷ d ∷ e ∷ f ∷ g ∷ h ∷ i ∷ [])
      ((var 0 ⊕ var 1 ⊕ var 2) ⊗ (var 3 ⊕ var 4 ⊕ var 5) ⊗ (var 6 ⊕ var 7 ⊕ var 8)) ((var 7 ⊕ var 6 ⊕ var 8) ⊗ (var 5 ⊕ var 3 ⊕ var 4) ⊗ (var 2 ⊕ var 1 ⊕ var 0)) tt
