-- The values of a group are zero exactly where its rules are kept: the groups that go by their plans alone, F, J and M.
use mathlib.Core.Path.{◌≡◌, refl, ap, ◌∙◌}
use mathlib.Core.Logic.{inl, inr}
use mathlib.Core.Bool.{Bool, true, ◌&&◌, and-true}
use mathlib.Core.List.{List, []}
use Prim.Native.Nat.{ℕ, ◌+◌, ◌<◌, ◌≤◌}
use lib.ListN.{get_or, drop}
use Rattle.algebra.specs.Prime.{p}
use Rattle.algebra.specs.Lists.{All}
use Rattle.algebra.specs.Field.{𝔾}
use Rattle.table.specs.Cells.{Cell, next}
use Rattle.table.specs.Columns.{NUM-OP-SELECTOR, COL-IS-EXT-LINE as IS-EXT-LINE, COL-S-SIMPLE-ARITHMATIC-OP as SELECTORS}
use Rattle.table.specs.Entry.{Entry}
use Rattle.table.specs.CpuStark.{constraint_opcode_selector, constraint_env_unchanged_pc}
use Rattle.table.specs.Tape.{tape}
use Rattle.rulebook.specs.Rule.{fact, Sentence, always, holds, keeps_sentence, keeps_all}
use Rattle.rulebook.specs.Kind.{ones, kind_of}
use Rattle.rulebook.specs.Rulebook.{rules_F, rules_J, rules_M}
use Rattle.rulebook.proofs.Poly.{Poly, Means, unknown, unknown_means}
use Rattle.rulebook.proofs.Values.{env}
use Rattle.rulebook.proofs.Split.{Split, Fits, put-number, heat_means, all_below-at}
use Rattle.rulebook.proofs.Sentences.{Item, sentences, zero_entries, group_is}
use Rattle.rulebook.proofs.Plans
use Rattle.rulebook.proofs.Plans.{Agrees, ByPlan, known, lone}
use Rattle.rulebook.proofs.Shape.{Bit}
use Rattle.rulebook.proofs.Facts.{current, following, Facts, known_means}

-- the count of F is that of `lone`
lone_one : ones (current lone) SELECTORS NUM-OP-SELECTOR ≡ 1
unfolding ones
lone_one = refl

counted_F : (x : Cell → ℕ) (k : ℕ) → ones (current x) SELECTORS NUM-OP-SELECTOR ≡ 1 → rules_F lone k ≡ rules_F x k
unfolding rules_F
counted_F x k e = rw (e, lone_one)

-- a next row that is ext has the selectors of the current row
abbrev pub SameKind : (Cell → ℕ) → Type 0
SameKind x = following x IS-EXT-LINE ≡ 1 → (i : ℕ) → SELECTORS ≤ i → i < SELECTORS + NUM-OP-SELECTOR → following x i ≡ current x i

module _ (x : Cell → ℕ) (first last : Bool) where
  pub by_plan_at : {ss : List Split} {σ : ℕ → Cell → Poly} {n : ℕ} {vs : List Entry} {rs : ℕ → List Sentence} {its : ℕ → List Item}
      → Agrees ss σ n vs rs its → (k : ℕ) → k < n → All (Fits x) ss → Means (env x) (σ k)
      → zero_entries x first last vs ≡ keeps_all x first last (rs k)
  by_plan_at {ss} {σ} {n} {vs} {rs} {its} A k l f m =
      group_is x first last ss f [] tt (σ k) unknown m (unknown_means (env x)) vs (rs k) (its k)
      (A.covered k, all_below-at (λ k. sentences true ss (σ k) [] vs (rs k) (its k)) n k l A.for_kinds, A.for_any k)

module _ (x : Cell → ℕ) (canon : (c : Cell) → x c < p) (F : Facts x) (first last : Bool) where
  pub by_plan : {vs : List Entry} {rs : ℕ → List Sentence} {its : ℕ → List Item} → ByPlan vs rs its
      → zero_entries x first last vs ≡ keeps_all x first last (rs (kind_of x))
  by_plan A = by_plan_at x first last A (kind_of x) F.kind-lt F.fits (known_means x canon F)

  pub agree_F : zero_entries x first last constraint_opcode_selector ≡ keeps_all x first last (rules_F x (kind_of x))
  agree_F = by_plan (Plans.group_F) ∙ ap (keeps_all x first last) (counted_F x (kind_of x) F.count)

  pub agree_J : zero_entries x first last constraint_env_unchanged_pc ≡ keeps_all x first last (rules_J x (kind_of x))
  unfolding rules_J holds keeps_sentence keeps_all
  agree_J =
      let rest : Bool = keeps_all x first last (drop 1 (rules_J x (kind_of x))) in
      by_plan (Plans.group_J x) ∙ ap (λ t. keeps_sentence x first last (get_or (rules_J x (kind_of x)) 0 (always (fact true))) && t) (and-true rest)

  -- M: the next row is main, or ext and of the same kind
  pub agree_M : SameKind x → zero_entries x first last tape ≡ keeps_all x first last (rules_M x (kind_of x))
  agree_M same = go F.next_line
    where
      go : Bit (following x) IS-EXT-LINE → zero_entries x first last tape ≡ keeps_all x first last (rules_M x (kind_of x))
      go (inl e) =
          by_plan_at x first last (Plans.group_M_main x) (kind_of x) F.kind-lt F.fits
          (put-number x (next IS-EXT-LINE) 0 (known (kind_of x)) (ap 𝔾.nat e) (known_means x canon F))
      go (inr e) =
          by_plan_at x first last (Plans.group_M_ext x) (kind_of x) F.kind-lt F.fits
          (put-number x (next IS-EXT-LINE) 1 _ (ap 𝔾.nat e)
          (heat_means x 1 SELECTORS NUM-OP-SELECTOR (kind_of x) (known (kind_of x)) (λ i l u. ap 𝔾.nat (same e i l u ∙ F.selectors i l u))
          (known_means x canon F)))
