-- H: on an ext row all is free; on a main row the register selectors are 0 or 1, at most one of each group is 1, and then values and
-- rules agree.
use mathlib.Core.Path.{◌≡◌, refl, sym, ap, ◌∙◌}
use mathlib.Core.Logic.{inl, inr}
use mathlib.Core.Bool.{Bool, true}
use mathlib.Core.List.{List, [], ◌∷◌}
use Prim.Native.Nat.{ℕ, ◌<◌, ◌≤◌}
use native.Mathlib.Omega.{arith}
use lib.Dec.{leb, lit<, lit≤}
use borrow.Author.Tests.{leb-true, le-leb}
use Rattle.algebra.specs.Prime.{p}
use Rattle.algebra.specs.Field.{𝔾}
use Rattle.algebra.specs.Expr.{Expr, con, ◌⊖◌, ◌⊗◌, eval}
use Rattle.algebra.specs.Lists.{range}
use Rattle.algebra.proofs.Ring.{eq_of_sub}
use Rattle.algebra.proofs.Field.{𝔾_is_ring, eq_of_nat}
use Rattle.table.specs.Cells.{Cell, local, lv}
use Rattle.table.specs.Columns.{REGISTER-NUM, COL-IS-EXT-LINE as IS-EXT-LINE, COL-S-OP0-START as S-OP0, COL-S-OP1-START as S-OP1, COL-S-DST-START as S-DST}
use Rattle.table.specs.CpuStark.{selector_sum, constraint_operands_mathches_registers}
use Rattle.rulebook.specs.Rule.{Rule, fact, ◌⇒◌, Sentence, holds, keeps_all}
use Rattle.rulebook.specs.Kind.{ones, kind_of}
use Rattle.rulebook.specs.Words.{main, every, bit}
use Rattle.rulebook.specs.Rulebook.{rules_H}
use Rattle.rulebook.proofs.Open.{open_table}
use Rattle.rulebook.proofs.Tests.{bool_ext, or_cases, is_zero, is_zero_eq, is_zero_mul}
use Rattle.rulebook.proofs.Poly.{Means, unknown, unknown_means}
use Rattle.rulebook.proofs.Values.{env}
use Rattle.rulebook.proofs.Split.{Fits, hot, put-number}
use Rattle.rulebook.proofs.Sentences.{zero_entries, entry_at, rule_at, rule_seen, group_is}
use Rattle.rulebook.proofs.Plans
use Rattle.rulebook.proofs.Plans.{lone}
use Rattle.rulebook.proofs.Shape.{Bit, Bits}
use Rattle.rulebook.proofs.Counts.{implies, number-holds, bits_of, one_of_sum, none_of_sum}
use Rattle.rulebook.proofs.Facts.{current, Facts, hot_fits}

-- the counts of H are those of `lone`
abbrev AtMostOne : (Cell → ℕ) → ℕ → Type 0
AtMostOne x s = leb (ones (current x) s REGISTER-NUM) 1 ≡ true

lone_none : AtMostOne lone S-OP0 × AtMostOne lone S-OP1 × AtMostOne lone S-DST
unfolding ones
lone_none = (refl, refl, refl)

counted_H : (x : Cell → ℕ) (k : ℕ) → AtMostOne x S-OP0 → AtMostOne x S-OP1 → AtMostOne x S-DST → rules_H lone k ≡ rules_H x k
unfolding rules_H
counted_H x k a b c = rw (a, b, c, lone_none.0, lone_none.1, lone_none.2)

module _ (x : Cell → ℕ) (canon : (c : Cell) → x c < p) (F : Facts x) (first last : Bool) where
  abbrev values_H : Bool
  values_H = zero_entries x first last constraint_operands_mathches_registers

  abbrev kept_H : Bool
  kept_H = keeps_all x first last (rules_H x (kind_of x))

  line_means : (n : ℕ) → current x IS-EXT-LINE ≡ n → Means (env x) (Plans.line_is n)
  line_means n e = put-number x (local IS-EXT-LINE) n unknown (ap 𝔾.nat e) (unknown_means (env x))

  agree_H_ext : current x IS-EXT-LINE ≡ 1 → values_H ≡ kept_H
  agree_H_ext e =
      group_is x first last [] tt [] tt unknown (Plans.line_is 1) (unknown_means (env x)) (line_means 1 e)
      constraint_operands_mathches_registers
      (rules_H x (kind_of x))
      (Plans.plan_H [] [] [])
      (Plans.group_H_ext x (kind_of x))

  record Chosen (s : ℕ) : Type 0 where
    are-bits : Bits (current x) s REGISTER-NUM
    at_most_one : ones (current x) s REGISTER-NUM ≤ 1

  chosen_fits : {s : ℕ} → Chosen s → Fits x (hot 0 s REGISTER-NUM)
  chosen_fits {s} c = hot_fits x 0 s REGISTER-NUM c.are-bits c.at_most_one

  module _ (e : current x IS-EXT-LINE ≡ 0) where
    agree_H_main : Chosen S-OP0 → Chosen S-OP1 → Chosen S-DST → values_H ≡ kept_H
    agree_H_main a b c =
        group_is x first last Plans.given_H (chosen_fits a, (chosen_fits b, (chosen_fits c, tt))) [] tt unknown (Plans.line_is 0)
        (unknown_means (env x))
        (line_means 0 e)
        constraint_operands_mathches_registers
        (rules_H lone (kind_of x))
        (Plans.plan_H (0 ∷ []) (1 ∷ []) (2 ∷ []))
        (Plans.group_H_main (kind_of x))
        ∙ ap (keeps_all x first last)
        (counted_H x (kind_of x) (le-leb _ 1 a.at_most_one) (le-leb _ 1 b.at_most_one) (le-leb _ 1 c.at_most_one))

    -- from the values: 1 - IS_EXT_LINE is not 0, so that the sum is 0 or 1
    abbrev SumOk : ℕ → Type 0
    SumOk s = is_zero (eval 𝔾 (env x) ((con 1 ⊖ lv IS-EXT-LINE) ⊗ selector_sum s ⊗ (con 1 ⊖ selector_sum s))) ≡ true

    at_most : (s : ℕ) → Bits (current x) s REGISTER-NUM → SumOk s → ones (current x) s REGISTER-NUM ≤ 1
    unfolding eval selector_sum
    at_most s b h =
        let ev : Expr Cell → 𝔾.F = eval 𝔾 (env x) in
        or_cases (is_zero (ev ((con 1 ⊖ lv IS-EXT-LINE) ⊗ selector_sum s))) (is_zero (ev (con 1 ⊖ selector_sum s)))
        (sym (is_zero_mul _ _) ∙ h)
        (λ t.
        or_cases (is_zero (ev (con 1 ⊖ lv IS-EXT-LINE))) (is_zero (ev (selector_sum s))) (sym (is_zero_mul _ _) ∙ t)
        (λ u.
        let never : 1 ≡ current x IS-EXT-LINE =
        eq_of_nat 1 (current x IS-EXT-LINE) (lit< tt) (canon (local IS-EXT-LINE)) (eq_of_sub 𝔾 𝔾_is_ring _ _ (is_zero_eq _ u)) in
        absurd (omega arith))
        (λ u. omega (arith, none_of_sum x canon REGISTER-NUM s (lit< tt) b (is_zero_eq _ u))))
        (λ t. omega (arith, one_of_sum x canon REGISTER-NUM s (lit< tt) b (is_zero_eq _ t)))

    all_bits : values_H ≡ true → Bits (current x) S-OP0 30
    all_bits h =
        bits_of x canon 30 S-OP0
        (rule_seen x first last (Plans.line_is 0) (line_means 0 e) constraint_operands_mathches_registers
        (every (range S-OP0 30) (λ c. bit (lv c)))
        (range 0 30)
        Plans.bits-H
        h)

    sums : values_H ≡ true → SumOk S-OP0 × SumOk S-OP1 × SumOk S-DST
    unfolding open_table
    sums h =
        let at = entry_at x first last constraint_operands_mathches_registers in
        (at 30 h, at 31 h, at 32 h)

    chosen_by_values : values_H ≡ true → Chosen S-OP0 × Chosen S-OP1 × Chosen S-DST
    chosen_by_values h =
        let b : Bits (current x) S-OP0 30 = all_bits h in
        let s : SumOk S-OP0 × SumOk S-OP1 × SumOk S-DST = sums h in
        (chosen S-OP0 b (lit≤ tt) (lit≤ tt) s.0, chosen S-OP1 b (lit≤ tt) (lit≤ tt) s.1, chosen S-DST b (lit≤ tt) (lit≤ tt) s.2)
      where
        chosen : (s : ℕ) → Bits (current x) S-OP0 30 → S-OP0 ≤ s → s ≤ S-DST → SumOk s → Chosen s
        chosen s b l u t =
            let c : Bits (current x) s REGISTER-NUM = λ i m v. b i (omega arith) (omega arith) in
            record { are-bits = c; at_most_one = at_most s c t }

    -- from the rules, which all say "main →"
    chosen_by_rules : kept_H ≡ true → Chosen S-OP0 × Chosen S-OP1 × Chosen S-DST
    unfolding rules_H holds
    chosen_by_rules h =
        let ss : List Sentence = rules_H x (kind_of x) in (
          chosen S-OP0 (rule_at x first last ss 0 h refl) (rule_at x first last ss 1 h refl),
          chosen S-OP1 (rule_at x first last ss 3 h refl) (rule_at x first last ss 4 h refl),
          chosen S-DST (rule_at x first last ss 6 h refl) (rule_at x first last ss 7 h refl),
        )
      where
        on-main : (r : Rule) → holds x (main ⇒ r) ≡ true → holds x r ≡ true
        on-main r t = implies x main r t (number-holds x canon (local IS-EXT-LINE) 0 e)

        chosen : (s : ℕ) → holds x (main ⇒ every (range s REGISTER-NUM) (λ c. bit (lv c))) ≡ true
            → holds x (main ⇒ fact (leb (ones (current x) s REGISTER-NUM) 1)) ≡ true → Chosen s
        chosen s b t =
            record {
              are-bits = bits_of x canon REGISTER-NUM s (on-main (every (range s REGISTER-NUM) (λ c. bit (lv c))) b);
              at_most_one = leb-true _ 1 (on-main (fact (leb (ones (current x) s REGISTER-NUM) 1)) t);
            }

  pub agree_H : values_H ≡ kept_H
  agree_H = go F.line
    where
      go : Bit (current x) IS-EXT-LINE → values_H ≡ kept_H
      go (inr e) = agree_H_ext e
      go (inl e) =
          bool_ext values_H kept_H
          (λ h. let c : Chosen S-OP0 × Chosen S-OP1 × Chosen S-DST = chosen_by_values e h in sym (agree_H_main e c.0 c.1 c.2) ∙ h)
          (λ h. let c : Chosen S-OP0 × Chosen S-OP1 × Chosen S-DST = chosen_by_rules e h in agree_H_main e c.0 c.1 c.2 ∙ h)
