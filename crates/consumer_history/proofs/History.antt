-- The theorem on histories: by induction over the calls, each from the definition that its entry equals.
use mathlib.Core.Path.{◌≡◌, refl, ap, ◌∙◌}
use mathlib.Core.List.{List, [], ◌∷◌, ◌++◌}
use Prim.Native.Nat.{ℕ, zero, suc, ◌≤◌}
use native.Mathlib.Omega.{arith}
use lib.ListN.{length, length-append, get_or, drop, replicate}
use Rattle.std.specs.Prelude.{Result, Ok}
use Rattle.refusals.specs.declared.Refusal.{Refusal}
use Rattle.refusals.specs.Refusal.{unless, alpha_count, not_below_p, refused}
use Rattle.refusals.proofs.Laws.{by_unless, clear}
use Rattle.accumulators.proofs.Folds.{folds-at, folds_past}
use Rattle.table.specs.Table.{pair_values}
use Rattle.consumer.specs.declared.ConstraintConsumer.{ConstraintConsumer}
use Rattle.consumer.specs.Consumer.{with_values, weighted, taken, taken_refusal, lent_after, empty, filled, made, made_refusal}
use Rattle.consumer_pair_checks.specs.PairTaken.{pair_taken, pair_taken_refusal}
use Rattle.consumer_history.specs.History.{Call, value, pair, answer, weighted_values, History, new, ◌then◌, start, now, folded_by, listed, Promise}
use Rattle.consumer_history.proofs.Laws.{counts_are}
use Rattle.consumer_history.proofs.Values.{values-none, value-is, values-append}

module _ (c : ConstraintConsumer) where
  -- a call that is turned back, and one that folds the values vs
  folded-unless : (n : ℕ) (d : ConstraintConsumer) (vs : List ℕ) → d ≡ with_values c vs →
      lent_after c (unless n refused (Ok d)) ≡ with_values c (folded_by (unless n refused (Ok d)) vs)
  folded-unless zero d vs e = e
  folded-unless (suc n) d vs e = values-none c

  pub call-folds : (call : Call) → lent_after c (answer c call) ≡ with_values c (folded_by (answer c call) (weighted_values c call))
  unfolding taken pair_taken
  call-folds (value k v) = folded-unless (taken_refusal c v) _ (weighted c k v ∷ []) (value-is c (weighted c k v))
  call-folds (pair masks lv nv) =
      folded-unless (pair_taken_refusal masks lv nv c) _ (pair_values masks lv nv c.z_last c.lagrange_basis_first) refl

-- the record as it stands has folded the list
pub folds-listed : (h : History) → now h ≡ with_values (start h) (listed h)
folds-listed (new alphas accs z f l) = values-none _
folds-listed (h then call) =
    let vs = folded_by (answer (now h) call) (weighted_values (now h) call) in
    call-folds (now h) call
    ∙ ap (λ (c : ConstraintConsumer). with_values c vs) (folds-listed h)
    ∙ values-append (start h) (listed h) vs

-- a record that is made new
record Made (c : ConstraintConsumer) : Type 0 where
  pub none : c.folded ≡ 0
  pub alphas : c.count ≤ length c.alphas
  pub accumulators : c.count ≤ length c.constraint_accs

filled-made : (alphas accs : List ℕ) (z f l : ℕ) → length accs ≡ length alphas → Made (filled alphas accs z f l)
filled-made alphas accs z f l e =
    record {
      none = refl;
      alphas = omega (arith, length-append alphas (drop (length alphas) (replicate 8 0)));
      accumulators = omega (arith, e, length-append accs (drop (length accs) (replicate 8 0)));
    }

start-made : (h : History) → Made (start h)
unfolding made made_refusal
start-made (new alphas accs z f l) =
    by_unless refused (Ok (filled alphas accs z f l)) (λ (r : Result ConstraintConsumer Refusal). Made (lent_after empty r)) _
    (λ e. filled-made alphas accs z f l (counts_are _ _
    (clear (alpha_count (length alphas) (length accs) ∷ not_below_p ((z ∷ f ∷ l ∷ []) ++ alphas ++ accs) ∷ []) tt e).0).0)
    (filled-made [] [] 0 0 0 refl)
start-made (h then call) = start-made h

-- the theorem
pub promise : (h : History) → Promise (start h) (now h) (listed h)
promise h =
    let e = folds-listed h in
    let m = start-made h in
    let c = start h in
    record {
      count = ap (λ (d : ConstraintConsumer). d.folded) e ∙ omega (arith, m.none);
      fold_of = λ i k.
          ap (λ (d : ConstraintConsumer). get_or d.constraint_accs i 0) e
          ∙ folds-at c.count i c.alphas c.constraint_accs (listed h) k (omega (arith, m.alphas)) (omega (arith, m.accumulators));
      past = λ i k.
          ap (λ (d : ConstraintConsumer). get_or d.constraint_accs i 0) e
          ∙ folds_past c.count i c.alphas c.constraint_accs (listed h) k;
      alphas = ap (λ (d : ConstraintConsumer). d.alphas) e;
      places = ap (λ (d : ConstraintConsumer). d.count) e;
      z_last = ap (λ (d : ConstraintConsumer). d.z_last) e;
      lagrange_basis_first = ap (λ (d : ConstraintConsumer). d.lagrange_basis_first) e;
      lagrange_basis_last = ap (λ (d : ConstraintConsumer). d.lagrange_basis_last) e;
    }
