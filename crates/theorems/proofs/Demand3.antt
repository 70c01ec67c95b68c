-- Demand 3, of the call that folds a pair: a pair of canonical rows with plain flags keeps every rule of the rulebook
-- exactly when it folds from zero to zero under more than 225 of the p alphas, and it then does so under all p. The
-- theorem stands at the end; what it says is the record Demand3 of specs/Demand3.antt.
use mathlib.Core.Path.{◌≡◌, refl, sym, ap, ◌∙◌}
use mathlib.Core.Logic.{◌↔◌}
use mathlib.Core.Bool.{true}
use mathlib.Core.List.{List, [], ◌∷◌, map}
use Prim.Native.Nat.{ℕ, suc, ◌<◌, ◌≤◌}
use native.Mathlib.Omega.{arith}
use lib.ListN.{length, get_or}
use borrow.Author.Tests.{lt-ltb, eq-eqb}
use Rattle.algebra.specs.Prime.{p}
use Rattle.algebra.specs.Fold.{fold}
use Rattle.algebra.specs.Lists.{All}
use Rattle.algebra.proofs.Lists.{all_both, below, length-map-below, all_map-below, nodup_map-below}
use Rattle.refusals.specs.Refusal.{canonical}
use Rattle.residue.specs.Residues.{residues}
use Rattle.table.specs.Table.{pair_values}
use Rattle.rulebook.proofs.Tests.{true_of, of_true}
use Rattle.rulebook.proofs.Pair.{values_count, values-canonical, canonical-cells}
use Rattle.rulebook.proofs.Theorem.{rules_iff_values}
use Rattle.accumulators.specs.Accumulated.{folds}
use Rattle.pair_fold_checks.specs.PairFold.{pair_fold_refusal, pair_fold_accumulators}
use Rattle.theorems.specs.ManyFold.{FoldsToZero, Many}
use Rattle.theorems.specs.Demand3.{Given, KeepsEveryRule, Demand3}
use Rattle.theorems.proofs.Roots.{zero-values, zeros-fold}

-- numbers that are below p at every place are canonical
pub canonical_of : (l : List ℕ) → ((i : ℕ) → get_or l i 0 < p) → canonical l ≡ true
unfolding canonical
canonical_of [] h = refl
canonical_of (x ∷ xs) h = rw (lt-ltb x p (h 0), canonical_of xs (λ i. h (suc i)))

module _ (masks lv nv : List ℕ) (z f : ℕ) (given : Given masks lv nv z f) where
  -- the call with one alpha below p and the accumulator 0 is not turned back, and its answer is the fold of the values
  not_refused : (alpha : ℕ) → alpha < p → pair_fold_refusal masks lv nv z f (alpha ∷ []) (0 ∷ []) ≡ 0
  unfolding pair_fold_refusal canonical
  not_refused alpha h =
      let a = given.accepted in
      simp (
        given.row.size,
        given.next_row.size,
        a.size,
        canonical_of lv given.row.below,
        canonical_of nv given.next_row.below,
        a.below,
        a.differ,
        lt-ltb _ _ given.z_below,
        lt-ltb _ _ given.f_below,
        lt-ltb _ _ h,
      )

  folded : (alpha : ℕ) → alpha < p → pair_fold_accumulators masks lv nv z f (alpha ∷ []) (0 ∷ []) ≡ fold residues alpha 0 (pair_values masks lv nv z f) ∷ []
  unfolding pair_fold_accumulators folds
  folded alpha h = simp (eq-eqb _ _ (not_refused alpha h))

  all_canonical : All (λ v. v < p) (pair_values masks lv nv z f)
  all_canonical =
      values-canonical masks lv nv z f
      (canonical-cells masks lv nv given.accepted given.row given.next_row z f given.z_below given.f_below)

  -- a pair keeps every rule exactly when its values are 0
  pub keeps_iff_zeros : KeepsEveryRule masks lv nv z f ↔ All (λ v. v ≡ 0) (pair_values masks lv nv z f)
  keeps_iff_zeros =
      let g = given in
      let i = rules_iff_values masks lv nv z f g.accepted g.row g.next_row g.plain g.z_below g.f_below in
      (λ k. i.0 (of_true _ k), λ zs. true_of _ (i.1 zs))

  -- a pair that keeps every rule folds from zero to zero under every alpha, and so under more than 225, as 0 to 225
  folds-under_all : KeepsEveryRule masks lv nv z f → (alpha : ℕ) → alpha < p → FoldsToZero masks lv nv z f alpha
  folds-under_all k alpha h = (
    not_refused alpha h,
    folded alpha h ∙ ap (λ (a : ℕ). a ∷ []) (zeros-fold alpha (pair_values masks lv nv z f) (keeps_iff_zeros.0 k)),
  )

  many_of_rules : KeepsEveryRule masks lv nv z f → Many (FoldsToZero masks lv nv z f)
  many_of_rules k =
      record {
        alphas = map (λ n. n) (below 226);
        below = all_map-below (λ n. n) (λ a. a < p) 226 (λ i h. omega arith);
        distinct = nodup_map-below (λ n. n) 226 (λ i j h l e. omega arith);
        many = omega (arith, length-map-below (λ (n : ℕ). n) 226);
        each = all_map-below (λ n. n) (FoldsToZero masks lv nv z f) 226 (λ i h. folds-under_all k i (omega arith));
      }

  -- a pair that folds from zero to zero under more than 225 alphas keeps every rule
  rules_of_many : Many (FoldsToZero masks lv nv z f) → KeepsEveryRule masks lv nv z f
  rules_of_many m =
      keeps_iff_zeros.1
      (zero-values m.alphas (pair_values masks lv nv z f) m.below all_canonical m.distinct enough
      (all_both (λ alpha h e. head_is (sym (folded alpha h) ∙ e.1)) m.alphas m.below m.each))
    where
      head_is : {a b : ℕ} → ◌≡◌ {A = List ℕ} (a ∷ []) (b ∷ []) → a ≡ b
      head_is e = ap (λ (l : List ℕ). get_or l 0 0) e

      enough : length (pair_values masks lv nv z f) ≤ length m.alphas
      enough = omega (arith, values_count masks lv nv z f, m.many)

-- demand 3
pub demand_3 : (masks lv nv : List ℕ) (z f : ℕ) → Given masks lv nv z f → Demand3 masks lv nv z f
demand_3 masks lv nv z f given =
    record {
      exactly_when = (many_of_rules masks lv nv z f given, rules_of_many masks lv nv z f given);
      under_all = λ m. folds-under_all masks lv nv z f given (rules_of_many masks lv nv z f given m);
    }
