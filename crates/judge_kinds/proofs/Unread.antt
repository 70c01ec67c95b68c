-- What an expression that goes by the kind does not read, it does not depend on.
use Prim.Native.Nat.{ℕ}
use mathlib.Core.Path.{◌≡◌, refl, sym, ◌∙◌}
use mathlib.Core.Bool.{Bool, true, false, cond}
use mathlib.Core.List.{List, [], ◌∷◌}
use lib.Dec.{eqb}
use Rattle.algebra.specs.Expr.{con, ◌⊕◌, ◌⊖◌, ◌⊗◌, eval}
use Rattle.residue.specs.Residues.{residues}
use Rattle.table.specs.Columns.{COL-OP0 as OP0, COL-OP1 as OP1}
use Rattle.table.specs.Cells.{cells, lv}
use Rattle.rulebook.specs.Kind.{END, SLOAD, SSTORE, TLOAD, TSTORE, CALL-SC, choose}
use Rattle.rulebook.specs.Words.{ENTRY}
use Rattle.rulebook.specs.Rulebook.{ext_length}

-- two functions agree on what is chosen, where they agree on each of the choices
module _ {A B : Type 0} (f g : A → B) where
  abbrev pub Agree : List (ℕ × A) → Type 0
  Agree [] = Unit {0}
  Agree (c ∷ cs) = (f c.1 ≡ g c.1) × Agree cs

  agree_cond : (b : Bool) (a d : A) → f a ≡ g a → f d ≡ g d → f (cond b a d) ≡ g (cond b a d)
  agree_cond true a d p q = p
  agree_cond false a d p q = q

  pub agree : (k : ℕ) (cs : List (ℕ × A)) (d : A) → Agree cs → f d ≡ g d → f (choose k cs d) ≡ g (choose k cs d)
  agree k [] d h e = e
  agree k (c ∷ cs) d h e = agree_cond (eqb k c.0) c.1 (choose k cs d) h.0 (agree k cs d h.1 e)

module _ (m l n : List ℕ) (z f k : ℕ) where
  length-same : eval residues (cells m l n z f) (ext_length k) ≡ eval residues (cells [] l [] 0 0) (ext_length k)
  unfolding eval
  length-same =
      agree (eval residues (cells m l n z f)) (eval residues (cells [] l [] 0 0)) k
      ((SLOAD, con 1)
      ∷ (SSTORE, con 1)
      ∷ (CALL-SC, con 1)
      ∷ (TLOAD, lv OP0 ⊗ lv OP1 ⊕ con 1 ⊖ lv OP0)
      ∷ (TSTORE, lv OP1)
      ∷ (END, con 1 ⊖ lv ENTRY)
      ∷ [])
      (con 0) (refl, (refl, (refl, (refl, (refl, (refl, tt)))))) refl

pub length_told : (m l n : List ℕ) (z f k : ℕ) {v : ℕ} → v ≡ eval residues (cells [] l [] 0 0) (ext_length k) →
    eval residues (cells m l n z f) (ext_length k) ≡ v
length_told m l n z f k h = length-same m l n z f k ∙ sym h

pub length_masks : (m l n : List ℕ) (z f k : ℕ) → eval residues (cells m l n z f) (ext_length k) ≡ eval residues (cells [] l n 0 0) (ext_length k)
length_masks m l n z f k = length-same m l n z f k ∙ sym (length-same [] l n 0 0 k)
