-- What demand 3 says of the call that folds a pair: under which alphas, and under how many.
use Rattle.std.specs.Prelude.{◌≡◌, List, [], ◌∷◌, ℕ, ◌<◌, length}
use Rattle.algebra.specs.Prime.{p}
use Rattle.algebra.specs.Lists.{All, NoDup}
use Rattle.pair_fold_checks.specs.PairFold.{pair_fold_refusal, pair_fold_accumulators}

-- "folds from zero to zero" under alpha: the call is not turned back, and an accumulator 0 handed in comes back 0
abbrev pub FoldsToZero : List ℕ → List ℕ → List ℕ → ℕ → ℕ → ℕ → Type 0
FoldsToZero masks lv nv z f alpha =
    (pair_fold_refusal masks lv nv z f (alpha ∷ []) (0 ∷ []) ≡ 0) × (pair_fold_accumulators masks lv nv z f (alpha ∷ []) (0 ∷ []) ≡ 0 ∷ [])

-- more than n of the p alphas have a property: a list of alphas below p, none twice, longer than n, has it throughout
pub record MoreThan (n : ℕ) (P : ℕ → Type 0) : Type 0 where
  pub alphas : List ℕ
  pub below : All (λ alpha. alpha < p) alphas
  pub distinct : NoDup alphas
  pub many : n < length alphas
  pub each : All P alphas

-- "more than 225 of the p alphas"
abbrev pub Many : (ℕ → Type 0) → Type 0
Many P = MoreThan 225 P
