-- The kinds in the order of their numbers, and the first whose selector is 1.
use Prim.Native.Nat.{ℕ, zero, suc, ◌+◌, ◌<◌}
use native.Mathlib.Omega.{arith}
use mathlib.Core.Path.{◌≡◌, refl, ap, ◌∙◌}
use mathlib.Core.Bool.{Bool, true, false, cond}
use mathlib.Core.List.{List, [], ◌∷◌}
use lib.ListN.{length, get_or, take, drop}
use lib.Dec.{eqb}
use Rattle.std.specs.Prelude.{Option, None, Some, find, zip, MatchOption, IsSomeAnd}
use Rattle.std.specs.Option.{option_map}
use Rattle.rulebook.specs.Kind.{first_one}
use Rattle.judge_columns.proofs.Runs.{part-length, part_at}
use Rattle.judge_kinds.specs.declared.kinds.Kind.{Kind}
use Rattle.judge_kinds.specs.declared.kinds.Kind.TheVariants as K
use Rattle.judge_kinds.specs.Kind.{kind_number, number_of_kind}

module _ {A : Type 0} (number : A → ℕ) where
  -- the items have the numbers from a on
  abbrev Numbered : ℕ → List A → Type 0
  Numbered a [] = Unit {0}
  Numbered a (x ∷ xs) = (number x ≡ a) × Numbered (suc a) xs

  abbrev number_or : ℕ → Option (A × ℕ) → ℕ
  number_or d None = d
  number_or d (Some e) = number e.0

  found_here : (b : Bool) (e : A × ℕ) (o : Option (A × ℕ)) (d a m : ℕ) → number e.0 ≡ a → number_or d o ≡ suc a + m →
      number_or d (cond b (Some e) o) ≡ a + cond b 0 (suc m)
  found_here true e o d a m h k = h ∙ omega arith
  found_here false e o d a m h k = k ∙ omega arith

  -- the first item whose number in the list xs is 1
  found : (g : ℕ → ℕ) (items : List A) (xs : List ℕ) (a s n d : ℕ) → Numbered a items → length items ≡ n → length xs ≡ n → a + n ≡ d →
      ((i : ℕ) → i < n → get_or xs i 0 ≡ g (s + i)) → number_or d (find (λ e. eqb e.1 1) (zip items xs)) ≡ a + first_one g s n
  unfolding first_one
  found g [] xs a s zero d h k l e places = omega (arith, e)
  found g [] xs a s (suc n) d h k l e places = absurd (omega (arith, k))
  found g (y ∷ ys) xs a s zero d h k l e places = absurd (omega (arith, k))
  found g (y ∷ ys) [] a s (suc n) d h k l e places = absurd (omega (arith, l))
  found g (y ∷ ys) (x ∷ xs) a s (suc n) d h k l e places =
      found_here (eqb x 1) (y, x) (find (λ e. eqb e.1 1) (zip ys xs)) d a (first_one g (suc s) n) h.0
      (found g ys xs (suc a) (suc s) n d h.1 (omega (arith, k)) (omega (arith, l)) (omega (arith, e)) (λ i t. places (suc i) (omega arith) ∙ ap g (omega arith)))
      ∙ ap (λ (v : ℕ). a + cond (eqb v 1) 0 (suc (first_one g (suc s) n))) (places zero (omega arith) ∙ ap g (omega arith))

-- what `map` makes of what was found
pub mapped : {R : Type 0} {P : R → Kind → Type 0} (v : R → Kind × ℕ) (r : Option R) (m : Option Kind) →
    MatchOption r (m ≡ None) (λ x. IsSomeAnd m (P x)) → ((x : R) (k : Kind) → P x k → k ≡ (v x).0) →
    m ≡ option_map (λ e. e.0) (option_map v r)
mapped v None m h f = h
mapped v (Some x) None h f = absurd h
mapped v (Some x) (Some k) h f = ap Some (f x k h)

number-of : (o : Option (Kind × ℕ)) → number_of_kind (option_map (λ e. e.0) o) ≡ number_or kind_number 19 o
unfolding number_of_kind
number-of None = refl
number-of (Some e) = refl

abbrev pub all : List Kind
all =
    K.SimpleArithmaticOp
    ∷ K.Mov
    ∷ K.Jmp
    ∷ K.Cjmp
    ∷ K.Call
    ∷ K.Ret
    ∷ K.Mload
    ∷ K.Mstore
    ∷ K.End
    ∷ K.Rc
    ∷ K.Bitwise
    ∷ K.Not
    ∷ K.Gte
    ∷ K.Psdn
    ∷ K.Sload
    ∷ K.Sstore
    ∷ K.Tload
    ∷ K.Tstore
    ∷ K.CallSc
    ∷ []

pub kind_found : (row : List ℕ) → length row ≡ 94 →
    number_of_kind (option_map (λ e. e.0) (find (λ e. eqb e.1 1) (zip all (take 19 (drop 66 row))))) ≡ first_one (λ c. get_or row c 0) 66 19
kind_found row h =
    number-of (find (λ e. eqb e.1 1) (zip all (take 19 (drop 66 row))))
    ∙ found kind_number (λ c. get_or row c 0) all (take 19 (drop 66 row)) 0 66 19 19
    (refl, (refl, (refl, (refl, (refl, (refl, (refl, (refl, (refl, (refl, (refl, (refl, (refl, (refl, (refl, (refl, (refl, (refl, (refl, tt)))))))))))))))))))
    refl (part-length row 66 19 (omega (arith, h))) refl (part_at row 66 19 (omega (arith, h)))
    ∙ omega arith
