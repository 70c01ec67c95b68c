-- What an expression or a rule that goes by the kind does not read, it does not depend on.
use Prim.Native.Nat.{ℕ}
use mathlib.Core.Path.{◌≡◌, refl, ap}
use mathlib.Core.Bool.{Bool, not, ◌&&◌, ◌||◌}
use mathlib.Core.List.{List, [], ◌∷◌}
use Rattle.algebra.specs.Expr.{con, ◌⊕◌, eval}
use Rattle.residue.specs.Residues.{residues}
use Rattle.table.specs.Columns.{COL-PC as PC, COL-OP1-IMM as OP1-IMM, COL-OP0 as OP0, COL-OP1 as OP1, COL-DST as DST}
use Rattle.table.specs.Cells.{cells, lv, nv}
use Rattle.rulebook.specs.Rule.{Rule, ◌≐◌, deny, ◌and◌, ◌⇒◌, holds}
use Rattle.rulebook.specs.Kind.{JMP, CJMP, CALL, RET, MLOAD, MSTORE}
use Rattle.rulebook.specs.Words.{on}
use Rattle.rulebook.specs.Rulebook.{size, goes_on}
use Rattle.judge_kinds.proofs.Unread.{agree}

module _ (m l n : List ℕ) (z f k : ℕ) where
  pub size_same : eval residues (cells m l n z f) (size k) ≡ eval residues (cells [] l [] 0 0) (size k)
  unfolding eval
  size_same =
      agree (eval residues (cells m l n z f)) (eval residues (cells [] l [] 0 0)) k ((MLOAD, con 2) ∷ (MSTORE, con 2) ∷ []) (con 1 ⊕ lv OP1-IMM)
      (refl, (refl, tt)) refl

module _ (m l n : List ℕ) (z f k : ℕ) where
  behind_masks : holds (cells m l n z f) (nv PC ≐ lv PC ⊕ size k) ≡ holds (cells [] l n 0 0) (nv PC ≐ lv PC ⊕ size k)
  unfolding holds eval
  behind_masks = rw (size_same m l n z f k, size_same [] l n 0 0 k)

  abbrev cjmp : Rule
  cjmp = (on OP0 ⇒ nv PC ≐ lv OP1) and (deny (on OP0) ⇒ nv PC ≐ lv PC ⊕ size k)

  cjmp_masks : holds (cells m l n z f) cjmp ≡ holds (cells [] l n 0 0) cjmp
  unfolding holds eval
  cjmp_masks = ap (λ (b : Bool). holds (cells m l n z f) (on OP0 ⇒ nv PC ≐ lv OP1) && (not (not (holds (cells m l n z f) (on OP0))) || b)) behind_masks

  pub goes-masks : holds (cells m l n z f) (goes_on k) ≡ holds (cells [] l n 0 0) (goes_on k)
  unfolding holds eval
  goes-masks =
      agree (holds (cells m l n z f)) (holds (cells [] l n 0 0)) k
      ((JMP, nv PC ≐ lv OP1) ∷ (CALL, nv PC ≐ lv OP1) ∷ (RET, nv PC ≐ lv DST) ∷ (CJMP, cjmp) ∷ [])
      (nv PC ≐ lv PC ⊕ size k) (refl, (refl, (refl, (cjmp_masks, tt)))) behind_masks
