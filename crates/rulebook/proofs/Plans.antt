-- The plan of each group, and that by this plan its values agree with its sentences, for every kind of the current row: computed.
use mathlib.Core.Path.{◌≡◌, refl}
use mathlib.Core.Bool.{true, false}
use mathlib.Core.List.{List, [], ◌∷◌, ◌++◌, map}
use Prim.Native.Nat.{ℕ, suc}
use lib.ListN.{take, drop}
use Rattle.algebra.specs.Expr.{◌⊖◌}
use Rattle.algebra.specs.Lists.{range}
use Rattle.algebra.proofs.Lists.{below}
use Rattle.table.specs.Cells.{Cell, local, next, mask_at, lv, mask}
use Rattle.table.specs.Columns.{REGISTER-NUM, NUM-OP-SELECTOR, COL-IS-EXT-LINE as IS-EXT-LINE, COL-OP1-IMM as OP1-IMM, COL-OPCODE as OPCODE, COL-OP0 as OP0, COL-S-OP0-START as S-OP0, COL-S-OP1-START as S-OP1, COL-S-DST-START as S-DST, COL-S-SIMPLE-ARITHMATIC-OP as SELECTORS}
use Rattle.table.specs.Entry.{Entry}
use Rattle.table.specs.CpuStark.{constraint_wrapper_cols, constraint_tx_init, eval_packed_generic_body, constraint_ext_lines, constraint_env_idx, constraint_opcode_selector, constraint_instruction_encode, constraint_operands_mathches_registers, constraint_env_unchanged_clk, constraint_env_unchanged_pc, constraint_reg_consistency}
use Rattle.table.specs.SimpleArithmaticOp.{simple_arithmatic_op}
use Rattle.table.specs.Tape.{tape}
use Rattle.table.specs.CallSc.{call_sc}
use Rattle.rulebook.specs.Rule.{Rule, fact, ◌and◌, Sentence, always}
use Rattle.rulebook.specs.Kind.{CJMP, END, CALL-SC, ones, choose}
use Rattle.rulebook.specs.Words.{DIFF, SAME, ENTRY, PAD, every, bit}
use Rattle.rulebook.specs.Rulebook.{rules_A, rules_B, rules_C, rules_D, rules_E, rules_F, rules_G, rules_H, rules_I, rules_J, rules_K, rules_L, rules_M, rules_N}
use Rattle.rulebook.proofs.Open.{open_table}
use Rattle.rulebook.proofs.Tests.{all}
use Rattle.rulebook.proofs.Cells.{place}
use Rattle.rulebook.proofs.Poly.{Poly, poly, constant, unknown}
use Rattle.rulebook.proofs.Split.{Split, flag, hot, trit, one_of, put, chosen, heat}
use Rattle.rulebook.proofs.Sentences.{Item, for_each, for_all, rule_of, sentence, sentences, covers, Agree}

-- the flags of a plain pair, on the current row and on the next
abbrev pub flags : (ℕ → Cell) → List ℕ → List Split
flags row cs = map (λ c. flag (row c)) cs

abbrev pub flags_here : List ℕ
flags_here = IS-EXT-LINE ∷ ENTRY ∷ DIFF ∷ SAME ∷ []

abbrev pub flags_next : List ℕ
flags_next = IS-EXT-LINE ∷ PAD ∷ []

-- what may be told apart once the first sentences of A, F and G are known, and the names of its places
abbrev pub given : List Split
given =
    flag (local PAD)
    ∷ flag (local OP1-IMM)
    ∷ hot 1 SELECTORS NUM-OP-SELECTOR
    ∷ trit (local OP0)
    ∷ flags local flags_here
    ++ flags next flags_next

abbrev pad : ℕ
pad = 0

abbrev op1_imm : ℕ
op1_imm = 1

abbrev kind' : ℕ
kind' = 2

abbrev op0 : ℕ
op0 = 3

abbrev ext : ℕ
ext = 4

abbrev entry : ℕ
entry = 5

abbrev diff : ℕ
diff = 6

abbrev same : ℕ
same = 7

abbrev ext' : ℕ
ext' = 8

abbrev pad' : ℕ
pad' = 9

-- what the cells come to, for a current row of kind k
abbrev pub known : ℕ → Cell → Poly
known k = heat 0 SELECTORS NUM-OP-SELECTOR k unknown

-- a group's values agree with its sentences by its plan: every value is told of, and every sentence is seen, for each of n kinds (of
-- which σ says what the cells come to) or for all kinds at once
pub record Agrees (ss : List Split) (σ : ℕ → Cell → Poly) (n : ℕ) (vs : List Entry) (rs : ℕ → List Sentence) (its : ℕ → List Item)
    : Type 0 where
  pub covered : (k : ℕ) → covers vs (its k) ≡ true
  pub for_kinds : all (λ k. sentences true ss (σ k) [] vs (rs k) (its k)) (below n) ≡ true
  pub for_any : (k : ℕ) → sentences false ss unknown [] vs (rs k) (its k) ≡ true

abbrev pub ByPlan : List Entry → (ℕ → List Sentence) → (ℕ → List Item) → Type 0
ByPlan = Agrees given known NUM-OP-SELECTOR

abbrev pub plan_A : ℕ → List Item
plan_A k =
    for_all [] (0 ∷ [])
    ∷ for_all (pad' ∷ pad ∷ []) (1 ∷ [])
    ∷ for_each (pad ∷ []) (2 ∷ [])
    ∷ for_all (entry ∷ []) (3 ∷ [])
    ∷ for_all (pad' ∷ same ∷ []) (4 ∷ [])
    ∷ for_all (pad' ∷ same ∷ []) (5 ∷ [])
    ∷ for_each (diff ∷ []) (6 ∷ [])
    ∷ []

pub group_A : (x : Cell → ℕ) → ByPlan constraint_wrapper_cols (rules_A x) plan_A
unfolding open_table rules_A
group_A x = record { covered = λ k. refl; for_kinds = refl; for_any = λ k. refl }

abbrev pub plan_B : ℕ → List Item
plan_B k =
    for_all [] (range 0 15)
    ∷ for_all (same ∷ []) (range 15 16)
    ∷ []

pub group_B : (x : Cell → ℕ) → ByPlan constraint_tx_init (rules_B x) plan_B
unfolding open_table rules_B
group_B x = record { covered = λ k. refl; for_kinds = refl; for_any = λ k. refl }

abbrev pub plan_C : ℕ → List Item
plan_C k =
    for_each (pad' ∷ choose k ((END, entry ∷ []) ∷ []) []) (range 0 10)
    ∷ for_each (pad ∷ ext ∷ op1_imm ∷ []) (range 10 2)
    ∷ []

pub group_C : (x : Cell → ℕ) → ByPlan eval_packed_generic_body (rules_C x) plan_C
unfolding open_table rules_C
group_C x = record { covered = λ k. refl; for_kinds = refl; for_any = λ k. refl }

abbrev pub plan_D : ℕ → List Item
plan_D k =
    for_each (ext ∷ []) (0 ∷ [])
    ∷ for_each (ext' ∷ ext ∷ []) (1 ∷ 2 ∷ [])
    ∷ for_all (kind' ∷ ext' ∷ []) (3 ∷ [])
    ∷ for_all (ext' ∷ []) (range 4 21)
    ∷ []

pub group_D : (x : Cell → ℕ) → ByPlan constraint_ext_lines (rules_D x) plan_D
unfolding open_table rules_D
group_D x = record { covered = λ k. refl; for_kinds = refl; for_any = λ k. refl }

abbrev pub plan_E : ℕ → List Item
plan_E k =
    for_each (diff ∷ []) (0 ∷ [])
    ∷ for_each (diff ∷ []) (3 ∷ [])
    ∷ for_each (same ∷ []) (1 ∷ [])
    ∷ for_each (diff ∷ []) (2 ∷ 5 ∷ [])
    ∷ for_each (ext ∷ []) (4 ∷ 6 ∷ [])
    ∷ []

pub group_E : (x : Cell → ℕ) → ByPlan constraint_env_idx (rules_E x) plan_E
unfolding open_table rules_E
group_E x = record { covered = λ k. refl; for_kinds = refl; for_any = λ k. refl }

-- numbers of which one selector is 1, and no register selector: with them F's and H's counts are kept
abbrev pub lone : Cell → ℕ
lone c = chosen (place c) SELECTORS

abbrev pub plan_F : ℕ → List Item
plan_F k = for_all [] (range 2 19) ∷ for_each [] (21 ∷ []) ∷ for_each [] (0 ∷ 1 ∷ 22 ∷ []) ∷ []

pub group_F : ByPlan constraint_opcode_selector (rules_F lone) plan_F
unfolding open_table rules_F ones
group_F = record { covered = λ k. refl; for_kinds = refl; for_any = λ k. refl }

abbrev pub plan_G : ℕ → List Item
plan_G k =
    for_all [] (0 ∷ [])
    ∷ for_all (ext ∷ []) (1 ∷ [])
    ∷ for_all (ext ∷ op1_imm ∷ []) (2 ∷ [])
    ∷ []

pub group_G : (x : Cell → ℕ) → ByPlan constraint_instruction_encode (rules_G x) plan_G
unfolding open_table rules_G
group_G x = record { covered = λ k. refl; for_kinds = refl; for_any = λ k. refl }

-- H: the three groups of register selectors, each with at most one 1 on a main row
abbrev pub given_H : List Split
given_H = hot 0 S-OP0 REGISTER-NUM ∷ hot 0 S-OP1 REGISTER-NUM ∷ hot 0 S-DST REGISTER-NUM ∷ []

abbrev pub plan_H : List ℕ → List ℕ → List ℕ → List Item
plan_H a b c =
    for_all [] (range 0 10)
    ∷ for_all a (30 ∷ [])
    ∷ for_all a (33 ∷ [])
    ∷ for_all [] (range 10 10)
    ∷ for_all b (31 ∷ [])
    ∷ for_all b (34 ∷ [])
    ∷ for_all [] (range 20 10)
    ∷ for_all c (32 ∷ [])
    ∷ for_all c (35 ∷ [])
    ∷ []

abbrev pub line_is : ℕ → Cell → Poly
line_is n = put (local IS-EXT-LINE) (constant n) unknown

pub group_H_ext : (x : Cell → ℕ) (k : ℕ)
    → Agree [] unknown (line_is 1) [] constraint_operands_mathches_registers (rules_H x k) (plan_H [] [] [])
unfolding open_table rules_H
group_H_ext x k = (refl, refl, refl)

pub group_H_main : (k : ℕ)
    → Agree given_H unknown (line_is 0) [] constraint_operands_mathches_registers (rules_H lone k) (plan_H (0 ∷ []) (1 ∷ []) (2 ∷ []))
unfolding open_table rules_H ones
group_H_main k = (refl, refl, refl)

-- the thirty selectors are 0 or 1 on a main row
pub bits-H :
    sentence [] (line_is 0) [] constraint_operands_mathches_registers (always (every (range S-OP0 30) (λ c. bit (lv c))))
    (for_all [] (range 0 30))
    ≡ true
unfolding open_table
bits-H = refl

abbrev pub plan_I : ℕ → List Item
plan_I k =
    for_all (ext' ∷ kind' ∷ []) (0 ∷ [])
    ∷ for_each (same ∷ ext' ∷ []) (1 ∷ [])
    ∷ []

pub group_I : (x : Cell → ℕ) → ByPlan constraint_env_unchanged_clk (rules_I x) plan_I
unfolding open_table rules_I
group_I x = record { covered = λ k. refl; for_kinds = refl; for_any = λ k. refl }

-- J's second and third sentence as one: where OP0 is neither 0 nor 1, they agree with their values only together
abbrev together : List Sentence → Rule
together [] = fact true
together (s ∷ ss) = rule_of s and together ss

abbrev pub rules_J_in_two : (Cell → ℕ) → ℕ → List Sentence
rules_J_in_two x k = take 1 (rules_J x k) ++ (always (together (drop 1 (rules_J x k))) ∷ [])

abbrev pub plan_J : ℕ → List Item
plan_J k = for_all (ext' ∷ kind' ∷ []) (0 ∷ []) ∷ for_each (ext' ∷ choose k ((CJMP, op0 ∷ []) ∷ []) []) (1 ∷ 2 ∷ []) ∷ []

pub group_J : (x : Cell → ℕ) → ByPlan constraint_env_unchanged_pc (rules_J_in_two x) plan_J
unfolding open_table rules_J
group_J x = record { covered = λ k. refl; for_kinds = refl; for_any = λ k. refl }

abbrev pub plan_K : ℕ → List Item
plan_K k =
    for_each (choose k ((CALL-SC, diff ∷ []) ∷ (END, ext ∷ []) ∷ []) []) (range 0 9)
    ∷ for_each (choose k ((CALL-SC, diff ∷ []) ∷ []) []) (9 ∷ [])
    ∷ []

pub group_K : (x : Cell → ℕ) → ByPlan constraint_reg_consistency (rules_K x) plan_K
unfolding open_table rules_K
group_K x = record { covered = λ k. refl; for_kinds = refl; for_any = λ k. refl }

-- L: OPCODE is one of the first five masks, and no two of them are equal
abbrev pub given_L : List Split
given_L = one_of (local OPCODE) (map mask_at (range 0 5)) ∷ []

abbrev pub pairs : List (ℕ × ℕ)
pairs = (0, 1) ∷ (0, 2) ∷ (0, 3) ∷ (0, 4) ∷ (1, 2) ∷ (1, 3) ∷ (1, 4) ∷ (2, 3) ∷ (2, 4) ∷ (3, 4) ∷ []

abbrev pub mask_difference : ℕ × ℕ → Poly
mask_difference q = poly unknown (mask q.0 ⊖ mask q.1)

abbrev pub plan_L : List ℕ → List Item
plan_L cs = for_each cs (range 0 4) ∷ []

pub group_L_arithmetic : (x : Cell → ℕ)
    → Agree given_L (known 0) unknown (map mask_difference pairs) simple_arithmatic_op (rules_L x 0) (plan_L (0 ∷ []))
unfolding open_table rules_L
group_L_arithmetic x = (refl, refl, refl)

pub group_L_other : (x : Cell → ℕ) → Agrees [] (λ k. known (suc k)) 18 simple_arithmatic_op (λ k. rules_L x (suc k)) (λ k. plan_L [])
unfolding open_table rules_L
group_L_other x = record { covered = λ k. refl; for_kinds = refl; for_any = λ k. refl }

-- M: on a next row that is ext the selectors are those of the current row
abbrev pub plan_M : List ℕ → List Item
plan_M n =
    for_each [] (0 ∷ 1 ∷ [])
    ∷ for_each (ext ∷ []) (2 ∷ 4 ∷ 8 ∷ [])
    ∷ for_each (ext ∷ []) (3 ∷ 9 ∷ [])
    ∷ for_each (ext ∷ []) (6 ∷ 7 ∷ 10 ∷ [])
    ∷ for_each [] (5 ∷ 12 ∷ 13 ∷ [])
    ∷ for_each (same ∷ n) (11 ∷ [])
    ∷ for_each (ext ∷ n) (14 ∷ 15 ∷ [])
    ∷ for_each (ext ∷ []) (16 ∷ [])
    ∷ for_each (ext ∷ []) (range 17 4)
    ∷ []

abbrev pub before_main : ℕ → Cell → Poly
before_main k = put (next IS-EXT-LINE) (constant 0) (known k)

abbrev pub before_ext : ℕ → Cell → Poly
before_ext k = put (next IS-EXT-LINE) (constant 1) (heat 1 SELECTORS NUM-OP-SELECTOR k (known k))

pub group_M_main : (x : Cell → ℕ) → Agrees given before_main NUM-OP-SELECTOR tape (rules_M x) (λ k. plan_M (kind' ∷ []))
unfolding open_table rules_M
group_M_main x = record { covered = λ k. refl; for_kinds = refl; for_any = λ k. refl }

pub group_M_ext : (x : Cell → ℕ) → Agrees given before_ext NUM-OP-SELECTOR tape (rules_M x) (λ k. plan_M [])
unfolding open_table rules_M
group_M_ext x = record { covered = λ k. refl; for_kinds = refl; for_any = λ k. refl }

abbrev pub plan_N : ℕ → List Item
plan_N k =
    for_each (ext ∷ []) (range 0 10)
    ∷ for_each (diff ∷ []) (range 10 2)
    ∷ for_each (diff ∷ []) (range 12 20)
    ∷ for_each (ext ∷ diff ∷ []) (range 32 2)
    ∷ for_each (ext ∷ []) (range 34 4)
    ∷ for_each (ext ∷ []) (range 38 4)
    ∷ []

pub group_N : (x : Cell → ℕ) → ByPlan call_sc (rules_N x) plan_N
unfolding open_table rules_N
group_N x = record { covered = λ k. refl; for_kinds = refl; for_any = λ k. refl }
