-- The constraints of a pair, yielded by their kinds: what a consumer takes one after the other, and the kinds and bare
-- values of the table.
use mathlib.Core.Path.{◌≡◌, refl, sym, ap, ap₂, ◌∙◌}
use mathlib.Core.Logic.{◌⊎◌, inl, inr}
use mathlib.Core.Bool.{Bool, true, ◌&&◌}
use mathlib.Core.List.{List, [], ◌∷◌, ◌++◌, map}
use Prim.Native.Nat.{ℕ, ◌<◌}
use native.Mathlib.Nat.{mod-eq_of_lt}
use native.Mathlib.Omega.{arith}
use lib.ListN.{length, replicate}
use lib.Dec.{ltb, lit<}
use Rattle.algebra.specs.Prime.{p}
use Rattle.algebra.specs.Expr.{Expr, var, con, ◌⊕◌, ◌⊖◌, ◌⊗◌, eval}
use Rattle.std.specs.Prelude.{Result, Ok, Err}
use Rattle.refusals.specs.declared.Refusal.{Refusal}
use Rattle.refusals.specs.Refusal.{canonical, sizes, contents, value_buffer, alpha_count, not_below_p, number, number_of}
use Rattle.refusals.proofs.Laws.{clear, behind, number_positive, given-is}
use Rattle.residue.specs.Residues.{add_p, neg_p, mul_p, residues}
use Rattle.residue.proofs.Laws.{mul_p_comm, mul_p-one}
use Rattle.table.specs.Cells.{Cell, cells}
use Rattle.table.specs.Entry.{Kind, plain, transition, first, Entry, weighted_by, values}
use Rattle.table.specs.Table.{table, pair_values}
use Rattle.rulebook.proofs.Cells.{line}
use Rattle.rulebook.proofs.Open.{open_table}
use Rattle.rulebook.proofs.Pair.{same_rows}
use Rattle.rulebook.proofs.Tests.{all, and_left, and_right}
use Rattle.rulebook.proofs.Weights.{reads_rows, reduced, value-lt}
use Rattle.pair_checks.specs.PairValues.{pair_values_refusal, pair_values_buffer}
use Rattle.pair_checks.proofs.Laws.{values_written}
use Rattle.consumer.specs.declared.ConstraintConsumer.{ConstraintConsumer}
use Rattle.consumer.specs.declared.Kind.{Kind as Kind_of_call}
use Rattle.consumer.specs.Consumer.{taken, lent_after, filled, made, accumulators}
use Rattle.consumer_history.specs.Yielded.{Yielded, taken_all, call_of, yielded}
use Rattle.pair_fold_checks.specs.PairFold.{pair_fold_refusal, pair_fold_accumulators}
use Rattle.pair_fold_checks.proofs.Laws.{cells-canonical}
use Rattle.theorems.proofs.ByConsumer.{made-is, by_consumer}
use Rattle.edge_consumer.specs.Calls.{kinds, yielded_by}

-- one value and the rest, and no value left
module _ (d : ConstraintConsumer) (ks : List Kind_of_call) (vs : List ℕ) where
  pub taken_next : (k : Kind_of_call) (v : ℕ) (rest : List Kind_of_call) (more : List ℕ) → ks ≡ k ∷ rest → vs ≡ v ∷ more
      → (e : ConstraintConsumer) → e ≡ lent_after d (taken k d v)
      → taken_all d (yielded_by ks vs) ≡ taken_all e (yielded_by rest more)
  unfolding taken_all yielded_by
  taken_next k v rest more h i e j = rw (h, i, j)

  pub taken_none : (ks ≡ []) ⊎ (vs ≡ []) → taken_all d (yielded_by ks vs) ≡ d
  unfolding taken_all yielded_by
  taken_none (inl h) = rw h
  taken_none (inr h) = rw h (go ks)
    where
      go : (ks : List Kind_of_call) → taken_all d (yielded_by ks []) ≡ d
      go [] = refl
      go (k ∷ ks) = refl

-- an expression that reads rows and masks only does not see the weights
rows_only : (x y : Cell → ℕ) → ((c : Cell) → ltb (line c) 3 ≡ true → x c ≡ y c) → (e : Expr Cell) → reads_rows e ≡ true → eval residues x e ≡ eval residues y e
unfolding eval
rows_only x y same (var c) h = same c h
rows_only x y same (con n) h = refl
rows_only x y same (a ⊕ b) h = ap₂ add_p (rows_only x y same a (and_left _ _ h)) (rows_only x y same b (and_right (reads_rows a) _ h))
rows_only x y same (a ⊖ b) h = ap₂ (λ s t. add_p s (neg_p t)) (rows_only x y same a (and_left _ _ h)) (rows_only x y same b (and_right (reads_rows a) _ h))
rows_only x y same (a ⊗ b) h = ap₂ mul_p (rows_only x y same a (and_left _ _ h)) (rows_only x y same b (and_right (reads_rows a) _ h))

abbrev bare : Entry → Bool
bare e = reads_rows e.expr && reduced e.expr

bare_table : all bare table ≡ true
unfolding open_table
bare_table = refl

times-one : (v : ℕ) → v < p → mul_p v 1 ≡ v
times-one v h = mul_p_comm v 1 ∙ mul_p-one v ∙ mod-eq_of_lt h

-- a fold that is not turned back
module _ (masks lv nv : List ℕ) (z f : ℕ) (alphas accs : List ℕ) (e : pair_fold_refusal masks lv nv z f alphas accs ≡ 0) where
  -- neither are the values, with both weights 1
  pub values-accepted : pair_values_refusal masks lv nv 1 1 226 ≡ 0
  unfolding pair_fold_refusal pair_values_refusal canonical
  values-accepted =
      let k = clear (sizes masks lv nv ++ (alpha_count (length alphas) (length accs) ∷ []) ++ contents masks lv nv
      ++ (not_below_p ((z ∷ f ∷ []) ++ alphas ++ accs) ∷ [])) tt e in
      let l = k.1.1.1.1 in
      behind (sizes masks lv nv ++ (value_buffer 226 ∷ []) ++ contents masks lv nv ++ (not_below_p (1 ∷ 1 ∷ []) ∷ [])) []
      (k.0, (k.1.0, (k.1.1.0, (refl, (l.0, (l.1.0, (l.1.1.0, (refl, tt))))))))

  abbrev x : Cell → ℕ
  x = cells masks lv nv 1 1

  abbrev y : Cell → ℕ
  y = cells masks lv nv z f

  -- a value with weight 1 is bare
  one : (k : Kind) (a : Expr Cell) → reads_rows a ≡ true → reduced a ≡ true → eval residues x (weighted_by k a) ≡ eval residues y a
  unfolding eval
  one k a h r = go k
    where
      same : eval residues x a ≡ eval residues y a
      same = rows_only x y (λ c l. sym (same_rows masks lv nv 1 1 c l) ∙ same_rows masks lv nv z f c l) a h

      unit : mul_p (eval residues x a) 1 ≡ eval residues y a
      unit = ap (λ v. mul_p v 1) same ∙ times-one _ (value-lt y y (λ c l. refl) (cells-canonical masks lv nv z f alphas accs e) a r)

      go : (k : Kind) → eval residues x (weighted_by k a) ≡ eval residues y a
      go plain = same
      go transition = unit
      go first = unit

  yields : (es : List Entry) → all bare es ≡ true → yielded_by (map (λ v. call_of v.kind) es) (values residues x es) ≡ yielded y es
  unfolding yielded_by values
  yields [] h = refl
  yields (v ∷ es) h =
      let b = and_left (bare v) _ h in
      let w = one v.kind v.expr (and_left _ _ b) (and_right (reads_rows v.expr) _ b) in
      ap₂ (λ (n : ℕ) (l : List Yielded). record { kind = call_of v.kind; value = n } ∷ l) w (yields es (and_right (bare v) _ h))

  yielded_all : yielded_by kinds (pair_values masks lv nv 1 1) ≡ yielded y table
  unfolding pair_values kinds
  yielded_all = yields table bare_table

  -- what a consumer leaves of the accumulators that takes the values vs
  pub left_by_consumer : (vs : List ℕ) (c d : ConstraintConsumer) (out : List ℕ) → vs ≡ pair_values_buffer masks lv nv 1 1 (replicate 226 0)
      → Ok c ≡ made alphas accs z f 1
      → d ≡ taken_all c (yielded_by kinds vs)
      → out ≡ accumulators d accs
      → out ≡ pair_fold_accumulators masks lv nv z f alphas accs
  left_by_consumer vs c d out h i j k =
      let w = h ∙ values_written masks lv nv 1 1 (replicate 226 0) refl values-accepted in
      let g = (given-is 0 c (filled alphas accs z f 1) (i ∙ made-is masks lv nv z f 1 alphas accs e (lit< tt))).1 in
      k
      ∙ ap (λ (t : ConstraintConsumer). accumulators t accs) (j
      ∙ ap (λ (t : ConstraintConsumer). taken_all t (yielded_by kinds vs)) g
      ∙ ap (taken_all (filled alphas accs z f 1)) (ap (yielded_by kinds) w ∙ yielded_all))
      ∙ sym (by_consumer masks lv nv z f 1 alphas accs e (lit< tt))

-- a call with the number 0 gives no refusal
pub not_refused : {A : Type 0} (r : Result A Refusal) (q : Refusal) → r ≡ Err q → number_of r ≡ 0 → ⊥
not_refused r q e z =
    let k : number q ≡ 0 = sym (ap number_of e) ∙ z in
    omega (arith, number_positive q, k)
