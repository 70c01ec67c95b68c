-- A pair that a consumer takes: what its accumulators are, and that it is the consumer that takes the 226 constraints
-- one after the other, each in the call of its kind. So is what the fold entry leaves of lent accumulators.
use mathlib.Core.Path.{◌≡◌, refl, sym, ap, ap₂, subst, ◌∙◌}
use mathlib.Core.Bool.{Bool, true, false, not, ◌&&◌}
use mathlib.Core.List.{List, [], ◌∷◌, ◌++◌}
use Prim.Native.Nat.{ℕ, ◌+◌, ◌<◌, ◌≤◌}
use native.Mathlib.Omega.{arith}
use lib.ListN.{length, get_or, take, drop, replicate, length-append, length-drop, length-map}
use lib.Seq.{take-append_seam, take_at}
use lib.Dec.{ltb}
use borrow.Author.Tests.{lt-ltb, eq-eqb, ltb-false, not-false}
use Rattle.std.specs.Prelude.{Ok}
use Rattle.std.proofs.lemmas.List.{length-take-le}
use Rattle.algebra.specs.Prime.{p}
use Rattle.refusals.specs.Refusal.{Condition, lowest, canonical, sizes, alpha_count, contents, not_below_p, fold_count, refused}
use Rattle.refusals.proofs.Laws.{Clear, clear, both_true, behind, canonical-append, canonical-below, given_unless, given-is}
use Rattle.algebra.specs.Expr.{eval}
use Rattle.residue.specs.Residues.{residues}
use Rattle.table.specs.Cells.{Cell, cells}
use Rattle.table.proofs.Numbers.{table-length}
use Rattle.table.specs.Entry.{Entry}
use Rattle.table.specs.Table.{table, pair_values}
use Rattle.accumulators.specs.Accumulated.{folds}
use Rattle.accumulators.proofs.Folds.{folds_in_use, folds-length}
use Rattle.rulebook.proofs.Tests.{all, and_left, and_right}
use Rattle.rulebook.proofs.Open.{open_table}
use Rattle.rulebook.proofs.Pair.{values_count}
use Rattle.rulebook.proofs.Weights.{reduced, value-lt}
use Rattle.consumer.specs.declared.ConstraintConsumer.{ConstraintConsumer}
use Rattle.consumer.specs.Consumer.{held, consumer_conditions, with_values, padded, filled, made, made_refusal, accumulators, accumulators_refusal}
use Rattle.consumer_pair_checks.specs.PairTaken.{pair_taken, pair_taken_refusal}
use Rattle.pair_fold_checks.specs.PairFold.{pair_fold_refusal, pair_fold_accumulators}
use Rattle.pair_fold_checks.proofs.Laws.{call_cells, clears as fold_clears, z_below, f_below, counts_clear, alphas-canonical, accumulators-canonical, accumulators-folded}
use Rattle.consumer_history.specs.Yielded.{Yielded, taken_all, call_of, yielded}
use Rattle.consumer_history.proofs.Laws.{counts_are, Ready, values_of, taken_all_lem, yielded_values, ready_still}
use Rattle.theorems.specs.PairByConsumer.{PairByConsumer}

-- every entry of the table has a canonical value before its weight is applied
abbrev bare : Entry → Bool
bare e = reduced e.expr

bare_table : all bare table ≡ true
unfolding open_table
bare_table = refl

bare_values : (x : Cell → ℕ) → ((c : Cell) → x c < p) → (es : List Entry) → all bare es ≡ true → canonical (values_of (yielded x es)) ≡ true
unfolding canonical
bare_values x canon [] h = refl
bare_values x canon (e ∷ es) h =
    rw (lt-ltb _ p (value-lt x x (λ c k. refl) canon e.expr (and_left (bare e) _ h)), bare_values x canon es (and_right (bare e) _ h))

padded-eight : (xs : List ℕ) → length xs ≤ 8 → length (padded xs) ≡ 8
padded-eight xs h = omega (arith, length-append xs (drop (length xs) (replicate 8 0)), length-drop {A = ℕ} (length xs) (replicate 8 0), h)

-- the accumulators in use are handed back
handed : (c : ConstraintConsumer) (out : List ℕ) → accumulators_refusal c out ≡ 0 → accumulators c out ≡ take c.count c.constraint_accs
unfolding accumulators
handed c out e = simp (eq-eqb _ _ e)

-- a pair that is not turned back
module _ (masks lv nv : List ℕ) (c : ConstraintConsumer) (e : pair_taken_refusal masks lv nv c ≡ 0) where
  abbrev counts : List Condition
  counts = alpha_count c.count c.count ∷ []

  abbrev rest : List Condition
  rest = not_below_p (held c) ∷ fold_count c.folded 226 ∷ []

  clears : Clear (sizes masks lv nv ++ counts ++ contents masks lv nv ++ rest)
  unfolding pair_taken_refusal
  clears = clear (sizes masks lv nv ++ counts ++ contents masks lv nv ++ rest) tt e

  abbrev last : Clear rest
  last = clears.1.1.1.1.1.1.1

  numbers : canonical (held c) ≡ true
  numbers = not-false (canonical (held c)) last.0

  pub ready : Ready c
  ready = behind (consumer_conditions c c.count) [] (clears.1.1.1.0, (last.0, tt))

  room : c.folded + 226 ≤ 4294967295
  room = ltb-false 4294967295 (c.folded + 226) last.1.0

  weight : (i : ℕ) → get_or (held c) i 0 < p
  weight = canonical-below (held c) numbers

  abbrev pub env : Cell → ℕ
  env = cells masks lv nv c.z_last c.lagrange_basis_first

  env-canonical : (k : Cell) → env k < p
  env-canonical = call_cells masks lv nv c.z_last c.lagrange_basis_first counts rest clears (weight 0) (weight 1)

  -- it is the consumer that takes the constraints
  pub constraints_taken : with_values c (pair_values masks lv nv c.z_last c.lagrange_basis_first) ≡ taken_all c (yielded env table)
  unfolding pair_values
  constraints_taken =
      sym (taken_all_lem c ready (yielded env table) (bare_values env env-canonical table bare_table)
      (omega (
        arith,
        room,
        table-length,
        length-map {B = Yielded} table (λ (k : Entry). record { kind = call_of k.kind; value = eval residues env k.expr }),
      ))
      ∙ ap (with_values c) (yielded_values masks lv nv c table))

  -- the fold entry is not turned back, called with what is in use, and leaves the accumulators in use
  module _ (alphas-eight : length c.alphas ≡ 8) (accs-eight : length c.constraint_accs ≡ 8) where
    abbrev alphas : List ℕ
    alphas = take c.count c.alphas

    abbrev accs : List ℕ
    accs = take c.count c.constraint_accs

    few : c.count ≤ 8
    few = (counts_are c.count c.count clears.1.1.1.0).1

    alphas-used : length alphas ≡ c.count
    alphas-used = length-take-le c.count c.alphas (omega (arith, few, alphas-eight))

    accs-used : length accs ≡ c.count
    accs-used = length-take-le c.count c.constraint_accs (omega (arith, few, accs-eight))

    without_last : not (canonical ((c.z_last ∷ c.lagrange_basis_first ∷ []) ++ alphas ++ accs)) ≡ false
    unfolding canonical
    without_last =
        let last = ltb c.lagrange_basis_last p in
        let used = canonical (alphas ++ accs) in
        let k = both_true (ltb c.z_last p) (ltb c.lagrange_basis_first p && (last && used)) numbers in
        let l = both_true (ltb c.lagrange_basis_first p) (last && used) k.1 in
        rw (k.0, l.0, (both_true last used l.1).1) refl

    pub fold_clear : pair_fold_refusal masks lv nv c.z_last c.lagrange_basis_first alphas accs ≡ 0
    unfolding pair_fold_refusal
    fold_clear =
        let l = clears.1.1.1.1 in
        rw (alphas-used, accs-used)
        (behind (sizes masks lv nv ++ counts ++ contents masks lv nv
        ++ (not_below_p ((c.z_last ∷ c.lagrange_basis_first ∷ []) ++ alphas ++ accs) ∷ [])) []
        (clears.0, (clears.1.0, (clears.1.1.0, (clears.1.1.1.0, (l.0, (l.1.0, (l.1.1.0, (without_last, tt)))))))))

    pub fold_left : take c.count (folds c.count c.alphas c.constraint_accs (pair_values masks lv nv c.z_last c.lagrange_basis_first))
        ≡ pair_fold_accumulators masks lv nv c.z_last c.lagrange_basis_first alphas accs
    fold_left =
        let vs = pair_values masks lv nv c.z_last c.lagrange_basis_first in
        let used = folds (length alphas) alphas accs vs in
        let behind_them = drop c.count c.constraint_accs in
        let size : length used ≡ c.count = folds-length (length alphas) alphas accs vs ∙ accs-used in
        ap (take c.count) (sym (folds_in_use c.count c.alphas c.constraint_accs vs (omega (arith, few, alphas-eight))))
        ∙ ap (λ (n : ℕ). take n (used ++ behind_them)) (sym size)
        ∙ take-append_seam used behind_them
        ∙ accumulators-folded masks lv nv c.z_last c.lagrange_basis_first alphas accs fold_clear

-- the theorem, of a consumer whose alphas and accumulators have their eight places
pub pair_by_consumer : (masks lv nv : List ℕ) (c d : ConstraintConsumer) → length c.alphas ≡ 8 → length c.constraint_accs ≡ 8 →
    pair_taken masks lv nv c ≡ Ok d → PairByConsumer masks lv nv c d
unfolding pair_taken
pair_by_consumer masks lv nv c d m n h =
    let vs = pair_values masks lv nv c.z_last c.lagrange_basis_first in
    let g = given-is (pair_taken_refusal masks lv nv c) (with_values c vs) d h in
    record {
      folds = fold_clear masks lv nv c g.0 m n;
      accumulators = ap (λ (t : ConstraintConsumer). take t.count t.constraint_accs) (sym g.1) ∙ fold_left masks lv nv c g.0 m n;
      count =
          ap (λ (t : ConstraintConsumer). t.folded) (sym g.1)
          ∙ ap (λ (k : ℕ). c.folded + k) (values_count masks lv nv c.z_last c.lagrange_basis_first);
      constraints = sym g.1 ∙ constraints_taken masks lv nv c g.0;
    }

-- and of a call of the fold entry that is not turned back: a consumer made of the same alphas, accumulators and
-- weights; lagrange_basis_last (l) is carried
module _ (masks lv nv : List ℕ) (z f l : ℕ) (alphas accs : List ℕ) (e : pair_fold_refusal masks lv nv z f alphas accs ≡ 0) (l-below : l < p) where
  abbrev pub consumer : ConstraintConsumer
  consumer = filled alphas accs z f l

  counted : (length accs ≡ length alphas) × (length alphas ≤ 8)
  counted = counts_are (length alphas) (length accs) (counts_clear masks lv nv z f alphas accs e)

  numbers_too : canonical ((z ∷ f ∷ l ∷ []) ++ alphas ++ accs) ≡ true
  unfolding canonical
  numbers_too =
      canonical-append ((z ∷ f ∷ l ∷ []) ++ alphas) accs
      ∙ rw (
        canonical-append (z ∷ f ∷ l ∷ []) alphas,
        lt-ltb z p (z_below masks lv nv z f alphas accs e),
        lt-ltb f p (f_below masks lv nv z f alphas accs e),
        lt-ltb l p l-below,
        alphas-canonical masks lv nv z f alphas accs e,
      )
      (accumulators-canonical masks lv nv z f alphas accs e)

  not-below : (not_below_p ((z ∷ f ∷ l ∷ []) ++ alphas ++ accs)).holds ≡ false
  not-below = ap not numbers_too

  pub made-is : made alphas accs z f l ≡ Ok consumer
  unfolding made made_refusal
  made-is =
      sym (given_unless refused (Ok consumer) _
      (behind (alpha_count (length alphas) (length accs) ∷ not_below_p ((z ∷ f ∷ l ∷ []) ++ alphas ++ accs) ∷ []) []
      (counts_clear masks lv nv z f alphas accs e, (not-below, tt))))

  alphas-are : take consumer.count consumer.alphas ≡ alphas
  alphas-are = take-append_seam alphas (drop (length alphas) (replicate 8 0))

  accs-are : take consumer.count consumer.constraint_accs ≡ accs
  accs-are = take_at accs (drop (length accs) (replicate 8 0)) (length alphas) counted.0

  own-clear : Clear (consumer_conditions consumer consumer.count)
  own-clear = (
    subst (λ (n : ℕ). (alpha_count (length alphas) n).holds ≡ false) counted.0 (counts_clear masks lv nv z f alphas accs e),
    (rw (alphas-are, accs-are) not-below, tt),
  )

  pub taken-clear : pair_taken_refusal masks lv nv consumer ≡ 0
  unfolding pair_taken_refusal
  taken-clear =
      let k = fold_clears masks lv nv z f alphas accs e in
      let m = k.1.1.1.1 in
      behind (sizes masks lv nv ++ (alpha_count consumer.count consumer.count ∷ []) ++ contents masks lv nv
      ++ (not_below_p (held consumer) ∷ fold_count consumer.folded 226 ∷ [])) []
      (k.0, (k.1.0, (k.1.1.0, (own-clear.0, (m.0, (m.1.0, (m.1.1.0, (own-clear.1.0, (refl, tt)))))))))

  -- what that consumer hands back once it has taken the pair is what the fold entry leaves
  abbrev pub after : ConstraintConsumer
  after = with_values consumer (pair_values masks lv nv z f)

  pub taken-is : pair_taken masks lv nv consumer ≡ Ok after
  unfolding pair_taken
  taken-is = sym (given_unless refused (Ok after) _ taken-clear)

  pub by_pair : pair_fold_accumulators masks lv nv z f alphas accs ≡ accumulators after accs
  unfolding accumulators_refusal
  by_pair =
      let clear : accumulators_refusal after accs ≡ 0 =
      ap (λ (n : ℕ). lowest (consumer_conditions after n)) counted.0 ∙ ready_still consumer (ready masks lv nv consumer taken-clear) (pair_values masks lv nv z f) in
      let eight = padded-eight alphas counted.1 in
      let eight_too = padded-eight accs (omega (arith, counted.0, counted.1)) in
      sym (ap₂ (pair_fold_accumulators masks lv nv z f) alphas-are accs-are)
      ∙ sym (fold_left masks lv nv consumer taken-clear eight eight_too)
      ∙ sym (handed after accs clear)

  -- and once it has taken the constraints
  pub by_consumer : pair_fold_accumulators masks lv nv z f alphas accs
      ≡ accumulators (taken_all consumer (yielded (cells masks lv nv z f) table)) accs
  by_consumer = by_pair ∙ ap (λ (c : ConstraintConsumer). accumulators c accs) (constraints_taken masks lv nv consumer taken-clear)
