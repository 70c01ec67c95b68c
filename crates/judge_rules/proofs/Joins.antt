-- The rulebook, group by group.
use Prim.Native.Nat.{ℕ}
use mathlib.Core.Path.{◌≡◌}
use mathlib.Core.Bool.{Bool}
use mathlib.Core.List.{List, [], ◌∷◌}
use Rattle.table.specs.Cells.{cells}
use Rattle.rulebook.specs.Kind.{kind_of}
use Rattle.rulebook.specs.Rulebook.{rules_A, rules_B, rules_C, rules_D, rules_E, rules_F, rules_G, rules_H, rules_I, rules_J, rules_K, rules_L, rules_M, rules_N, rulebook, keeps}
use Rattle.rulebook.specs.Plain.{pair_keeps}
use Rattle.judge_columns.specs.Group.{keeps_rules}
use Rattle.judge_columns.proofs.Rules.{left_and, keeps_joined}

joins : (m l n : List ℕ) (first last : Bool) → pair_keeps m l n first last
    ≡ left_and (keeps_rules rules_A m l n (kind_of (cells m l n 0 0)) first last)
    (keeps_rules rules_B m l n (kind_of (cells m l n 0 0)) first last
    ∷ keeps_rules rules_C m l n (kind_of (cells m l n 0 0)) first last
    ∷ keeps_rules rules_D m l n (kind_of (cells m l n 0 0)) first last
    ∷ keeps_rules rules_E m l n (kind_of (cells m l n 0 0)) first last
    ∷ keeps_rules rules_F m l n (kind_of (cells m l n 0 0)) first last
    ∷ keeps_rules rules_G m l n (kind_of (cells m l n 0 0)) first last
    ∷ keeps_rules rules_H m l n (kind_of (cells m l n 0 0)) first last
    ∷ keeps_rules rules_I m l n (kind_of (cells m l n 0 0)) first last
    ∷ keeps_rules rules_J m l n (kind_of (cells m l n 0 0)) first last
    ∷ keeps_rules rules_K m l n (kind_of (cells m l n 0 0)) first last
    ∷ keeps_rules rules_L m l n (kind_of (cells m l n 0 0)) first last
    ∷ keeps_rules rules_M m l n (kind_of (cells m l n 0 0)) first last
    ∷ keeps_rules rules_N m l n (kind_of (cells m l n 0 0)) first last
    ∷ [])
unfolding pair_keeps keeps rulebook
joins m l n first last =
    let x = cells m l n 0 0 in
    let k = kind_of x in
    keeps_joined x first last (rules_A x k)
    (rules_B x k
    ∷ rules_C x k
    ∷ rules_D x k
    ∷ rules_E x k
    ∷ rules_F x k
    ∷ rules_G x k
    ∷ rules_H x k
    ∷ rules_I x k
    ∷ rules_J x k
    ∷ rules_K x k
    ∷ rules_L x k
    ∷ rules_M x k
    ∷ rules_N x k
    ∷ [])

-- the rulebook, group by group, at the kind that a call tells
pub rulebook_joins : (m l n : List ℕ) (first last : Bool) (k : ℕ) → k ≡ kind_of (cells [] l [] 0 0) → pair_keeps m l n first last
    ≡ left_and (keeps_rules rules_A m l n k first last)
    (keeps_rules rules_B m l n k first last
    ∷ keeps_rules rules_C m l n k first last
    ∷ keeps_rules rules_D m l n k first last
    ∷ keeps_rules rules_E m l n k first last
    ∷ keeps_rules rules_F m l n k first last
    ∷ keeps_rules rules_G m l n k first last
    ∷ keeps_rules rules_H m l n k first last
    ∷ keeps_rules rules_I m l n k first last
    ∷ keeps_rules rules_J m l n k first last
    ∷ keeps_rules rules_K m l n k first last
    ∷ keeps_rules rules_L m l n k first last
    ∷ keeps_rules rules_M m l n k first last
    ∷ keeps_rules rules_N m l n k first last
    ∷ [])
unfolding kind_of
rulebook_joins m l n first last k e =
    let d : k ≡ kind_of (cells m l n 0 0) = e in
    rw d (joins m l n first last)
