-- All values are zero exactly where every rule is kept: either side tells first what the groups' agreement needs, and then every group
-- agrees.
use mathlib.Core.Path.{◌≡◌, refl, sym, ap, ap₂, ◌∙◌}
use mathlib.Core.Bool.{Bool, true, ◌&&◌, and-true, and_assoc}
use mathlib.Core.List.{List, [], ◌∷◌, ◌++◌}
use Prim.Native.Nat.{ℕ, ◌<◌}
use lib.ListN.{drop}
use lib.Dec.{lit<}
use borrow.Author.Tests.{eqb-true}
use Rattle.algebra.specs.Prime.{p}
use Rattle.algebra.specs.Lists.{All, range}
use Rattle.algebra.specs.Expr.{eval}
use Rattle.algebra.proofs.Field.{eq_of_nat}
use Rattle.table.specs.Cells.{Cell, local, next, lv, nv, mask}
use Rattle.table.specs.Columns.{NUM-OP-SELECTOR, COL-IS-EXT-LINE as IS-EXT-LINE, COL-OP1-IMM as OP1-IMM, COL-OPCODE as OPCODE, COL-S-SIMPLE-ARITHMATIC-OP as SELECTORS}
use Rattle.table.specs.Entry.{Entry}
use Rattle.table.specs.CpuStark.{constraint_wrapper_cols, constraint_tx_init, eval_packed_generic_body, constraint_ext_lines, constraint_env_idx, constraint_opcode_selector, constraint_instruction_encode, constraint_operands_mathches_registers, constraint_env_unchanged_clk, constraint_env_unchanged_pc, constraint_reg_consistency}
use Rattle.table.specs.SimpleArithmaticOp.{simple_arithmatic_op}
use Rattle.table.specs.Tape.{tape}
use Rattle.table.specs.CallSc.{call_sc}
use Rattle.table.specs.Table.{table}
use Rattle.rulebook.specs.Rule.{Rule, ◌≐◌, ◌and◌, Sentence, holds, keeps_all}
use Rattle.rulebook.specs.Kind.{ones, kind_of}
use Rattle.rulebook.specs.Words.{PAD, every, some, bit, ext', kept as stays}
use Rattle.rulebook.specs.Rulebook.{masks_of, rules_A, rules_B, rules_C, rules_D, rules_E, rules_F, rules_G, rules_H, rules_I, rules_J, rules_K, rules_L, rules_M, rules_N, rulebook, keeps}
use Rattle.rulebook.specs.Plain.{plain_flags}
use Rattle.rulebook.proofs.Open.{open_table}
use Rattle.rulebook.proofs.Tests.{bool_ext, and_left, all, all_append, all_All, is_zero_eq}
use Rattle.rulebook.proofs.Poly.{unknown, unknown_means}
use Rattle.rulebook.proofs.Values.{env}
use Rattle.rulebook.proofs.Sentences.{zero_entry, zero_entries, kept_append, entry_at, rule_at, rule_seen}
use Rattle.rulebook.proofs.Plans
use Rattle.rulebook.proofs.Counts.{equal, implies, both_hold, every-are, range_at, bits_of, number-holds, one_of_sum}
use Rattle.rulebook.proofs.Facts.{current, Facts, facts}
use Rattle.rulebook.proofs.Groups.{SameKind, by_plan, agree_F, agree_J, agree_M}
use Rattle.rulebook.proofs.Operands.{agree_H}
use Rattle.rulebook.proofs.Arithmetic.{Differ, agree_L}

-- the groups of the table and of the rulebook
abbrev groups : List (List Entry)
groups =
    constraint_wrapper_cols
    ∷ constraint_tx_init
    ∷ eval_packed_generic_body
    ∷ constraint_ext_lines
    ∷ constraint_env_idx
    ∷ constraint_opcode_selector
    ∷ constraint_instruction_encode
    ∷ constraint_operands_mathches_registers
    ∷ constraint_env_unchanged_clk
    ∷ constraint_env_unchanged_pc
    ∷ constraint_reg_consistency
    ∷ simple_arithmatic_op
    ∷ tape
    ∷ call_sc
    ∷ []

abbrev rules : (Cell → ℕ) → ℕ → List (List Sentence)
rules x k =
    rules_A x k
    ∷ rules_B x k
    ∷ rules_C x k
    ∷ rules_D x k
    ∷ rules_E x k
    ∷ rules_F x k
    ∷ rules_G x k
    ∷ rules_H x k
    ∷ rules_I x k
    ∷ rules_J x k
    ∷ rules_K x k
    ∷ rules_L x k
    ∷ rules_M x k
    ∷ rules_N x k
    ∷ []

-- lists put behind a first one, and a test that goes by parts
abbrev joined : {A : Type 0} → List A → List (List A) → List A
joined xs [] = xs
joined xs (ys ∷ yss) = joined (xs ++ ys) yss

joined_is : {A : Type 0} (test : List A → Bool) → ((xs ys : List A) → test (xs ++ ys) ≡ (test xs && test ys))
    → (xs : List A) (yss : List (List A)) → test (joined xs yss) ≡ (test xs && all test yss)
joined_is test law xs [] = sym (and-true (test xs))
joined_is test law xs (ys ∷ yss) =
    joined_is test law (xs ++ ys) yss ∙ ap (λ t. t && all test yss) (law xs ys) ∙ and_assoc (test xs) (test ys) (all test yss)

◌⋀◌ : {a b c d : Bool} → a ≡ b → c ≡ d → (a && c) ≡ (b && d)
◌⋀◌ q r = ap₂ ◌&&◌ q r

nothing_left : true ≡ true
nothing_left = refl

infixr 20 ◌⋀◌
module _ (x : Cell → ℕ) (first last : Bool) where
  values_by_group : zero_entries x first last table ≡ all (zero_entries x first last) groups
  unfolding table
  values_by_group = joined_is (zero_entries x first last) (all_append (zero_entry x first last)) constraint_wrapper_cols (drop 1 groups)

  rules_by_group : keeps_all x first last (rulebook x (kind_of x)) ≡ all (keeps_all x first last) (rules x (kind_of x))
  unfolding rulebook
  rules_by_group = joined_is (keeps_all x first last) (kept_append x first last) (rules_A x (kind_of x)) (drop 1 (rules x (kind_of x)))

  module _ (canon : (c : Cell) → x c < p) (plain : plain_flags x ≡ true) where
    -- what the values tell (the groups stand in order: A is .0, D is .1 .1 .1 .0, and so on)
    module _ (h : All (λ g. zero_entries x first last g ≡ true) groups) where
      first_of_A : holds x (bit (lv PAD)) ≡ true
      unfolding rules_A
      first_of_A =
          rule_seen x first last unknown (unknown_means (env x)) constraint_wrapper_cols _ (0 ∷ [])
          (and_left _ _ ((Plans.group_A x).for_any 0))
          h.0

      first_of_G : holds x (bit (lv OP1-IMM)) ≡ true
      unfolding rules_G
      first_of_G =
          rule_seen x first last unknown (unknown_means (env x)) constraint_instruction_encode _ (0 ∷ [])
          (and_left _ _ ((Plans.group_G x).for_any 0))
          h.1.1.1.1.1.1.0

      first_of_F : holds x (every (range SELECTORS NUM-OP-SELECTOR) (λ c. bit (lv c))) ≡ true
      unfolding rules_F
      first_of_F =
          rule_seen x first last unknown (unknown_means (env x)) constraint_opcode_selector _ (range 2 NUM-OP-SELECTOR)
          (and_left _ _ ((Plans.group_F).for_any 0))
          h.1.1.1.1.1.0

      count_of_F : ones (current x) SELECTORS NUM-OP-SELECTOR ≡ 1
      unfolding open_table
      count_of_F =
          one_of_sum x canon NUM-OP-SELECTOR SELECTORS (lit< tt) (bits_of x canon NUM-OP-SELECTOR SELECTORS first_of_F)
          (is_zero_eq _ (entry_at x first last constraint_opcode_selector 21 h.1.1.1.1.1.0))

      facts_by_values : Facts x
      facts_by_values = facts x canon plain first_of_A first_of_F count_of_F first_of_G

    -- what the rules tell
    facts_by_rules : All (λ ss. keeps_all x first last ss ≡ true) (rules x (kind_of x)) → Facts x
    unfolding rules_A rules_F rules_G holds
    facts_by_rules h =
        let f : keeps_all x first last (rules_F x (kind_of x)) ≡ true = h.1.1.1.1.1.0 in
        facts x canon plain (rule_at x first last (rules_A x (kind_of x)) 0 h.0 refl) (rule_at x first last (rules_F x (kind_of x)) 0 f refl)
        (eqb-true _ 1 (rule_at x first last (rules_F x (kind_of x)) 1 f refl))
        (rule_at x first last (rules_G x (kind_of x)) 0 h.1.1.1.1.1.1.0 refl)

    third_of_F : keeps_all x first last (rules_F x (kind_of x)) ≡ true → holds x (some (masks_of (kind_of x)) (λ j. lv OPCODE ≐ mask j)) ≡ true
    unfolding rules_F
    third_of_F h = rule_at x first last (rules_F x (kind_of x)) 2 h refl

    last_of_D : keeps_all x first last (rules_D x (kind_of x)) ≡ true → SameKind x
    unfolding rules_D eval
    last_of_D h e i l u =
        let selectors : Rule = every (range SELECTORS NUM-OP-SELECTOR) stays in
        let r = rule_at x first last (rules_D x (kind_of x)) 3 h refl in
        let all_stay : holds x (stays OPCODE and selectors and stays OP1-IMM) ≡ true =
        implies x ext' _ r (number-holds x canon (next IS-EXT-LINE) 1 e) in
        let s : holds x selectors ≡ true = (both_hold x selectors _ (both_hold x (stays OPCODE) _ all_stay).1).0 in
        eq_of_nat _ _ (canon (next i)) (canon (local i))
        (equal x (nv i) (lv i)
        (range_at (λ i. holds x (stays i) ≡ true) NUM-OP-SELECTOR SELECTORS (every-are x (range SELECTORS NUM-OP-SELECTOR) stays s) i l u))

    -- every group agrees
    module _ (differ : Differ x) where
      agree : Facts x → keeps_all x first last (rules_D x (kind_of x)) ≡ true → keeps_all x first last (rules_F x (kind_of x)) ≡ true
          → all (zero_entries x first last) groups ≡ all (keeps_all x first last) (rules x (kind_of x))
      agree F d f =
          by_plan x canon F first last (Plans.group_A x)
          ⋀ by_plan x canon F first last (Plans.group_B x)
          ⋀ by_plan x canon F first last (Plans.group_C x)
          ⋀ by_plan x canon F first last (Plans.group_D x)
          ⋀ by_plan x canon F first last (Plans.group_E x)
          ⋀ agree_F x canon F first last
          ⋀ by_plan x canon F first last (Plans.group_G x)
          ⋀ agree_H x canon F first last
          ⋀ by_plan x canon F first last (Plans.group_I x)
          ⋀ agree_J x canon F first last
          ⋀ by_plan x canon F first last (Plans.group_K x)
          ⋀ agree_L x canon F first last differ (third_of_F f)
          ⋀ agree_M x canon F first last (last_of_D d)
          ⋀ by_plan x canon F first last (Plans.group_N x)
          ⋀ nothing_left

      pub values-are_rules : zero_entries x first last table ≡ keeps x first last
      unfolding keeps
      values-are_rules =
          values_by_group
          ∙ bool_ext _ _
          (λ h.
          let v : All (λ g. zero_entries x first last g ≡ true) groups = all_All (zero_entries x first last) groups h in
          let F : Facts x = facts_by_values v in
          let d : keeps_all x first last (rules_D x (kind_of x)) ≡ true = sym (by_plan x canon F first last (Plans.group_D x)) ∙ v.1.1.1.0 in
          let f : keeps_all x first last (rules_F x (kind_of x)) ≡ true = sym (agree_F x canon F first last) ∙ v.1.1.1.1.1.0 in
          sym (agree F d f) ∙ h)
          (λ h.
          let r : All (λ ss. keeps_all x first last ss ≡ true) (rules x (kind_of x)) = all_All (keeps_all x first last) (rules x (kind_of x)) h in
          agree (facts_by_rules r) r.1.1.1.0 r.1.1.1.1.1.0 ∙ h)
          ∙ sym rules_by_group
