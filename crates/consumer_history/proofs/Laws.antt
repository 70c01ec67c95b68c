-- A consumer that is not turned back for what it holds, and the values that it takes one after the other.
use mathlib.Core.Path.{◌≡◌, refl, sym, ap, ap₂, ◌∙◌}
use mathlib.Core.Bool.{Bool, true, false, not, ◌&&◌, ◌||◌}
use mathlib.Core.List.{List, [], ◌∷◌, ◌++◌, map}
use Prim.Native.Nat.{ℕ, zero, suc, ◌+◌, ◌<◌, ◌≤◌}
use native.Mathlib.Omega.{arith}
use lib.ListN.{length, take}
use lib.Dec.{eqb, ltb}
use borrow.Author.Tests.{eqb-true, ltb-false, lt-ltb, le-ltb, ltb-true, not-false}
use Rattle.std.specs.Prelude.{Result, Ok}
use Rattle.algebra.specs.Prime.{p}
use Rattle.algebra.specs.Expr.{eval}
use Rattle.algebra.specs.Fold.{fold}
use Rattle.refusals.specs.declared.Refusal.{Refusal}
use Rattle.refusals.specs.Refusal.{lowest, canonical, alpha_count, not_below_p, fold_count, refused}
use Rattle.refusals.proofs.Laws.{Clear, clear, behind, given_unless, both_true, none_true, canonical-append}
use Rattle.residue.specs.Residues.{add_p, mul_p, residues}
use Rattle.residue.proofs.Laws.{add_p-lt}
use Rattle.table.specs.Cells.{Cell, cells}
use Rattle.table.specs.Entry.{Kind as Kind_of_table, plain, transition, first, Entry, weighted_by, values}
use Rattle.accumulators.specs.Accumulated.{folds}
use Rattle.consumer.specs.declared.ConstraintConsumer.{ConstraintConsumer}
use Rattle.consumer.specs.declared.Kind.{Kind}
use Rattle.consumer.specs.Consumer.{weights, held, consumer_conditions, with_value, with_values, weighted, taken, taken_refusal, lent_after}
use Rattle.consumer_history.specs.Yielded.{Yielded, taken_all, weighted_all, call_of, yielded}
use Rattle.consumer_history.proofs.Values.{values-none, value-is, values-append}

-- so many alphas and so many accumulators, not turned back by their counts
pub counts_are : (n m : ℕ) → (alpha_count n m).holds ≡ false → (m ≡ n) × (n ≤ 8)
counts_are n m h =
    let k = none_true (eqb n 0 || ltb 8 n) (not (eqb m n)) h in
    (eqb-true m n (not-false _ k.1), ltb-false 8 n (none_true (eqb n 0) (ltb 8 n) k.0).1)

-- what is folded into canonical accumulators is canonical
fold-below : (alpha a : ℕ) (vs : List ℕ) → a < p → fold residues alpha a vs < p
unfolding fold
fold-below alpha a [] h = h
fold-below alpha a (v ∷ vs) h = fold-below alpha (add_p (mul_p a alpha) v) vs (add_p-lt (mul_p a alpha) v)

folds-canonical : (n : ℕ) (alphas accs vs : List ℕ) → canonical (take n accs) ≡ true →
    canonical (take n (folds n alphas accs vs)) ≡ true
unfolding folds canonical
folds-canonical zero alphas accs vs e = refl
folds-canonical (suc n) [] accs vs e = e
folds-canonical (suc n) (alpha ∷ alphas) [] vs e = e
folds-canonical (suc n) (alpha ∷ alphas) (a ∷ accs) vs e =
    let k = both_true (ltb a p) (canonical (take n accs)) e in
    rw (lt-ltb _ _ (fold-below alpha a vs (ltb-true _ _ k.0))) (folds-canonical n alphas accs vs k.1)

-- a consumer that is not turned back for what it holds
abbrev pub Ready : ConstraintConsumer → Type 0
Ready c = lowest (consumer_conditions c c.count) ≡ 0

module _ (c : ConstraintConsumer) where
  abbrev alphas_in_use : List ℕ
  alphas_in_use = take c.count c.alphas

  abbrev accs_in_use : List ℕ
  accs_in_use = take c.count c.constraint_accs

  parts : canonical (held c) ≡ ((canonical (weights c) && canonical alphas_in_use) && canonical accs_in_use)
  parts =
      canonical-append (weights c ++ alphas_in_use) accs_in_use
      ∙ ap (λ (b : Bool). b && canonical accs_in_use) (canonical-append (weights c) alphas_in_use)

module _ (c : ConstraintConsumer) (e : Ready c) where
  ready : Clear (consumer_conditions c c.count)
  ready = clear (consumer_conditions c c.count) tt e

  -- it takes any canonical value, where one more may be folded
  takes : (k : Kind) (v : ℕ) → v < p → c.folded < 4294967295 → taken k c v ≡ Ok (with_value c (weighted c k v))
  unfolding taken taken_refusal canonical
  takes k v h room =
      let last : Clear (not_below_p (v ∷ []) ∷ fold_count c.folded 1 ∷ []) =
      (rw (lt-ltb _ _ h) refl, (le-ltb _ _ (omega arith), tt)) in
      sym (given_unless refused (Ok (with_value c (weighted c k v))) _
      (behind (consumer_conditions c c.count) (not_below_p (v ∷ []) ∷ fold_count c.folded 1 ∷ []) ready
      ∙ behind (not_below_p (v ∷ []) ∷ fold_count c.folded 1 ∷ []) [] last))

  -- and is ready still, whatever it has folded
  pub ready_still : (vs : List ℕ) → Ready (with_values c vs)
  ready_still vs =
      let numbers : canonical (held c) ≡ true = not-false (canonical (held c)) ready.1.0 in
      let a =
      both_true (canonical (weights c) && canonical (alphas_in_use c)) (canonical (accs_in_use c)) (sym (parts c) ∙ numbers) in
      let accs = folds-canonical c.count c.alphas c.constraint_accs vs a.1 in
      behind (consumer_conditions (with_values c vs) c.count) [] (ready.0, (rw (parts (with_values c vs), a.0, accs) refl, tt))

-- the theorem: what a consumer is after values that were yielded one after the other
abbrev pub values_of : List Yielded → List ℕ
values_of ys = map (λ (y : Yielded). y.value) ys

pub taken_all_lem : (c : ConstraintConsumer) → Ready c → (ys : List Yielded) → canonical (values_of ys) ≡ true →
    c.folded + length ys ≤ 4294967295 → taken_all c ys ≡ with_values c (weighted_all c ys)
unfolding taken_all canonical
taken_all_lem c e [] h room = values-none c
taken_all_lem c e (y ∷ ys) h room =
    let k = both_true (ltb y.value p) (canonical (values_of ys)) h in
    let w = weighted c y.kind y.value in
    ap (λ (t : Result ConstraintConsumer Refusal). taken_all (lent_after c t) ys) (takes c e y.kind y.value (ltb-true _ _ k.0) (omega arith))
    ∙ ap (λ (d : ConstraintConsumer). taken_all d ys) (value-is c w)
    ∙ taken_all_lem (with_values c (w ∷ [])) (ready_still c e (w ∷ [])) ys k.1 (omega arith)
    ∙ values-append c (w ∷ []) (weighted_all c ys)

-- the entries of the table, yielded: with their weights applied they are the table's values
pub yielded_values : (masks lv nv : List ℕ) (c : ConstraintConsumer) (es : List Entry) →
    weighted_all c (yielded (cells masks lv nv c.z_last c.lagrange_basis_first) es)
    ≡ values residues (cells masks lv nv c.z_last c.lagrange_basis_first) es
unfolding values eval
yielded_values masks lv nv c [] = refl
yielded_values masks lv nv c (e ∷ es) = ap₂ (λ (v : ℕ) (l : List ℕ). v ∷ l) (of e.kind) (yielded_values masks lv nv c es)
  where
    env : Cell → ℕ
    env = cells masks lv nv c.z_last c.lagrange_basis_first

    of : (k : Kind_of_table) → weighted c (call_of k) (eval residues env e.expr) ≡ eval residues env (weighted_by k e.expr)
    of plain = refl
    of transition = refl
    of first = refl
