-- A group's values against its sentences, under a plan: with their weights, all values of the group are zero exactly where every
-- sentence is kept.
use mathlib.Core.Path.{◌≡◌, refl, sym, ap, ap₂, ◌∙◌}
use mathlib.Core.Bool.{Bool, true, false, not, cond, ◌&&◌, ◌||◌, beq, and_assoc, or-true, or-and_distrib_left, true≢false}
use mathlib.Core.List.{List, [], ◌∷◌, ◌++◌, map}
use Prim.Native.Nat.{ℕ, zero, suc}
use lib.ListN.{length, get_or}
use lib.Dec.{eqb}
use borrow.Author.Tests.{eqb-true}
use Rattle.algebra.specs.Lists.{All}
use Rattle.algebra.specs.Field.{𝔾}
use Rattle.algebra.specs.Expr.{Expr, con, eval}
use Rattle.algebra.proofs.Lists.{below}
use Rattle.algebra.proofs.Field.{𝔾_is_ring}
use Rattle.refusals.specs.Refusal.{member}
use Rattle.table.specs.Cells.{Cell, z_last}
use Rattle.table.specs.Entry.{Kind, plain, transition, first, Entry, constraint}
use Rattle.rulebook.specs.Rule.{Rule, fact, Sentence, always, [t], [f], holds, keeps_sentence, keeps_all}
use Rattle.rulebook.proofs.Tests.{bool_ext, and_left, and_right, and_intro, or_cases, all, all_append, all_get_d, get_d_all, is_zero, eq_is_zero}
use Rattle.rulebook.proofs.Poly.{Poly, Means}
use Rattle.rulebook.proofs.Values.{env}
use Rattle.rulebook.proofs.Check.{zeros, NotZero}
use Rattle.rulebook.proofs.Split.{Split, trit, Fits, checks, checks_is, all_below-at}

-- for each sentence: what is told apart, by places in a list of splits, and the places of its values in the group; and whether that
-- is seen for each kind of the current row, or once for all kinds
pub record Item : Type 0 where
  pub by_kind : Bool
  pub cases : List ℕ
  pub values : List ℕ

abbrev pub for_each : List ℕ → List ℕ → Item
for_each cs vs = record { by_kind = true; cases = cs; values = vs }

abbrev pub for_all : List ℕ → List ℕ → Item
for_all cs vs = record { by_kind = false; cases = cs; values = vs }

abbrev pub splits : List Split → List ℕ → List Split
splits given is = map (λ i. get_or given i (trit z_last)) is

abbrev pub select : List Entry → List ℕ → List Entry
select vs is = map (λ i. get_or vs i (constraint (con 0))) is

abbrev pub expressions : List Entry → List (Expr Cell)
expressions vs = map (λ v. v.expr) vs

-- weights, by number: none, z_last, lagrange_basis_first
abbrev pub weight : Kind → ℕ
weight plain = 0
weight transition = 1
weight first = 2

abbrev pub weight_of : Sentence → ℕ
weight_of (always r) = 0
weight_of ([t] r) = 1
weight_of ([f] r) = 2

abbrev pub rule_of : Sentence → Rule
rule_of (always r) = r
rule_of ([t] r) = r
rule_of ([f] r) = r

abbrev pub sentence : List Split → (Cell → Poly) → List Poly → List Entry → Sentence → Item → Bool
sentence given σ ns vs s it =
    let es : List Entry = select vs it.values in
    all (λ v. eqb (weight v.kind) (weight_of s)) es && checks (splits given it.cases) σ ns (expressions es) (rule_of s)

-- the sentences that are to be seen for each kind (b true), or for all kinds at once
abbrev pub sentences : Bool → List Split → (Cell → Poly) → List Poly → List Entry → List Sentence → List Item → Bool
sentences b given σ ns vs [] [] = true
sentences b given σ ns vs [] (it ∷ its) = false
sentences b given σ ns vs (s ∷ ss) [] = false
sentences b given σ ns vs (s ∷ ss) (it ∷ its) =
    cond (beq it.by_kind b) (sentence given σ ns vs s it) true && sentences b given σ ns vs ss its

-- every value of the group is told of
abbrev pub order : List Item → List ℕ
order [] = []
order (it ∷ its) = it.values ++ order its

abbrev pub covers : List Entry → List Item → Bool
covers vs its = all (λ i. member i (order its)) (below (length vs))

-- values, sentences and plan agree, where the cells come to σ for the kind at hand, and to τ for all kinds
abbrev pub Agree : List Split → (Cell → Poly) → (Cell → Poly) → List Poly → List Entry → List Sentence → List Item → Type 0
Agree given σ τ ns vs ss its =
    (covers vs its ≡ true) × (sentences true given σ ns vs ss its ≡ true) × (sentences false given τ ns vs ss its ≡ true)

select_append : (vs : List Entry) (is js : List ℕ) → select vs (is ++ js) ≡ select vs is ++ select vs js
select_append vs [] js = refl
select_append vs (i ∷ is) js = ap {B = List Entry} (λ t. get_or vs i (constraint (con 0)) ∷ t) (select_append vs is js)

-- a group's values and its sentences, for a row that is first, or last
module _ (x : Cell → ℕ) (first last : Bool) where
  abbrev pub kept : List Sentence → Bool
  kept ss = keeps_all x first last ss

  pub kept_append : (ss ts : List Sentence) → kept (ss ++ ts) ≡ (kept ss && kept ts)
  unfolding keeps_all
  kept_append [] ts = refl
  kept_append (s ∷ ss) ts =
      let one : Bool = keeps_sentence x first last s in
      ap (λ t. one && t) (kept_append ss ts) ∙ sym (and_assoc one (kept ss) (kept ts))

  -- a value whose weight is 0 is dropped
  abbrev pub dropped : ℕ → Bool
  dropped zero = false
  dropped (suc zero) = last
  dropped (suc (suc w)) = not first

  abbrev pub zero_entry : Entry → Bool
  zero_entry v = dropped (weight v.kind) || is_zero (eval 𝔾 (env x) v.expr)

  abbrev pub zero_entries : List Entry → Bool
  zero_entries vs = all zero_entry vs

  -- where all values are zero, so are those that are selected; and all are, where every one is among the selected
  pub entry_at : (vs : List Entry) (i : ℕ) → zero_entries vs ≡ true → zero_entry (get_or vs i (constraint (con 0))) ≡ true
  unfolding eval
  entry_at vs i h = all_get_d zero_entry vs (constraint (con 0)) i (eq_is_zero (𝔾.nat 0) 𝔾_is_ring.nat-zero) h

  selected : (vs : List Entry) (is : List ℕ) → zero_entries vs ≡ true → zero_entries (select vs is) ≡ true
  selected vs [] h = refl
  selected vs (i ∷ is) h = and_intro _ _ (entry_at vs i h) (selected vs is h)

  at-member : (vs : List Entry) (is : List ℕ) (i : ℕ) → member i is ≡ true → zero_entries (select vs is) ≡ true
      → zero_entry (get_or vs i (constraint (con 0))) ≡ true
  at-member vs [] i h t = absurd (true≢false (sym h))
  at-member vs (j ∷ is) i h t =
      let at : ℕ → Bool = λ k. zero_entry (get_or vs k (constraint (con 0))) in
      or_cases (eqb i j) (member i is) h (λ u. ap at (eqb-true i j u) ∙ and_left _ _ t) (λ u. at-member vs is i u (and_right (at j) _ t))

  covered : (vs : List Entry) (its : List Item) → covers vs its ≡ true → zero_entries vs ≡ zero_entries (select vs (order its))
  covered vs its h =
      bool_ext _ _ (selected vs (order its))
      (λ t.
      get_d_all zero_entry vs (constraint (con 0))
      (λ i l. at-member vs (order its) i (all_below-at (λ j. member j (order its)) (length vs) i l h) t))

  -- values, and a sentence, of one weight
  entries_are : (w : ℕ) (vs : List Entry) → all (λ v. eqb (weight v.kind) w) vs ≡ true
      → zero_entries vs ≡ (dropped w || zeros x (expressions vs))
  entries_are w [] h = sym (or-true (dropped w))
  entries_are w (v ∷ vs) h =
      let zero : Bool = is_zero (eval 𝔾 (env x) v.expr) in
      ap₂ ◌&&◌ (ap (λ t. dropped t || zero) (eqb-true _ w (and_left _ _ h))) (entries_are w vs (and_right (eqb (weight v.kind) w) _ h))
      ∙ sym (or-and_distrib_left (dropped w) zero (zeros x (expressions vs)))

  sentence_kept : (s : Sentence) → keeps_sentence x first last s ≡ (dropped (weight_of s) || holds x (rule_of s))
  unfolding keeps_sentence
  sentence_kept (always r) = refl
  sentence_kept ([t] r) = refl
  sentence_kept ([f] r) = refl

  -- a sentence with no weight holds where all are kept
  pub rule_at : (ss : List Sentence) (i : ℕ) → kept ss ≡ true → weight_of (get_or ss i (always (fact true))) ≡ 0
      → holds x (rule_of (get_or ss i (always (fact true)))) ≡ true
  unfolding holds keeps_all
  rule_at [] i h w = refl
  rule_at (s ∷ ss) zero h w = sym (sentence_kept s ∙ ap (λ t. dropped t || holds x (rule_of s)) w) ∙ and_left _ _ h
  rule_at (s ∷ ss) (suc i) h w = rule_at ss i (and_right (keeps_sentence x first last s) _ h) w

  module _ (given : List Split) (fits : All (Fits x) given) (ns : List Poly) (n : NotZero x ns) where
    fit_at : (ss : List Split) → All (Fits x) ss → (i : ℕ) → Fits x (get_or ss i (trit z_last))
    fit_at [] f i = tt
    fit_at (s ∷ ss) f zero = f.0
    fit_at (s ∷ ss) f (suc i) = fit_at ss f.1 i

    all_fit : (is : List ℕ) → All (Fits x) (splits given is)
    all_fit [] = tt
    all_fit (i ∷ is) = (fit_at given fits i, all_fit is)

    sentence_is : (σ : Cell → Poly) → Means (env x) σ → (vs : List Entry) (s : Sentence) (it : Item) → sentence given σ ns vs s it ≡ true
        → zero_entries (select vs it.values) ≡ keeps_sentence x first last s
    sentence_is σ m vs s it h =
        let es : List Entry = select vs it.values in
        entries_are (weight_of s) es (and_left _ _ h)
        ∙ ap (λ t. dropped (weight_of s) || t)
        (checks_is x (splits given it.cases) σ ns (expressions es) (rule_of s) (all_fit it.cases) m n
        (and_right (all (λ v. eqb (weight v.kind) (weight_of s)) es) _ h))
        ∙ sym (sentence_kept s)

    -- the cells come to σ for the kind at hand, and to τ for all kinds
    module _ (σ τ : Cell → Poly) (m : Means (env x) σ) (o : Means (env x) τ) (vs : List Entry) where
      item_is : (b : Bool) (s : Sentence) (it : Item) → cond (beq b true) (sentence given σ ns vs s it) true ≡ true
          → cond (beq b false) (sentence given τ ns vs s it) true ≡ true
          → zero_entries (select vs it.values) ≡ keeps_sentence x first last s
      item_is true s it g h = sentence_is σ m vs s it g
      item_is false s it g h = sentence_is τ o vs s it h

      sentences_are : (ss : List Sentence) (its : List Item) → sentences true given σ ns vs ss its ≡ true
          → sentences false given τ ns vs ss its ≡ true → zero_entries (select vs (order its)) ≡ kept ss
      unfolding keeps_all
      sentences_are [] [] g h = refl
      sentences_are [] (it ∷ its) g h = absurd (true≢false (sym h))
      sentences_are (s ∷ ss) [] g h = absurd (true≢false (sym h))
      sentences_are (s ∷ ss) (it ∷ its) g h =
          ap zero_entries (select_append vs it.values (order its))
          ∙ all_append zero_entry (select vs it.values) (select vs (order its))
          ∙ ap₂ ◌&&◌ (item_is it.by_kind s it (and_left _ _ g) (and_left _ _ h))
          (sentences_are ss its (and_right (cond (beq it.by_kind true) (sentence given σ ns vs s it) true) _ g)
          (and_right (cond (beq it.by_kind false) (sentence given τ ns vs s it) true) _ h))

      pub group_is : (ss : List Sentence) (its : List Item) → Agree given σ τ ns vs ss its → zero_entries vs ≡ kept ss
      group_is ss its h = covered vs its h.0 ∙ sentences_are ss its h.1 h.2

  -- a rule that is seen in values with nothing told apart holds where they are zero
  pub rule_seen : (σ : Cell → Poly) → Means (env x) σ → (vs : List Entry) (r : Rule) (is : List ℕ)
      → sentence [] σ [] vs (always r) (for_all [] is) ≡ true → zero_entries vs ≡ true → holds x r ≡ true
  rule_seen σ m vs r is h z =
      sym (sentence_is [] tt [] tt σ m vs (always r) (for_all [] is) h ∙ sentence_kept (always r)) ∙ selected vs is z
