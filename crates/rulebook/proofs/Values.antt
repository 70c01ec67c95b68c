-- The numbers that code computes with, seen in the field: values and equations.
use mathlib.Core.Path.{◌≡◌, sym, ap, ap₂, ◌∙◌, fun_ext}
use Prim.Native.Nat.{ℕ, ◌%◌}
use lib.Dec.{eqb}
use Rattle.algebra.specs.Prime.{p}
use Rattle.algebra.specs.Field.{𝔾, val}
use Rattle.algebra.specs.Expr.{Expr, eval}
use Rattle.algebra.proofs.Field.{val-nat}
use Rattle.algebra.proofs.Expr.{eval_hom}
use Rattle.residue.specs.Residues.{residues}
use Rattle.residue.proofs.Field.{residues→𝔾}
use Rattle.table.specs.Cells.{Cell}
use Rattle.rulebook.specs.Rule.{◌≐◌, holds}
use Rattle.rulebook.proofs.Tests.{same}

module _ (x : Cell → ℕ) where
  -- what each cell holds, in the field
  abbrev pub env : Cell → 𝔾.F
  env c = 𝔾.nat (x c)

  pub value-is : (e : Expr Cell) → 𝔾.nat (eval residues x e) ≡ eval 𝔾 env e
  value-is e =
      sym (residues→𝔾.on_nat (eval residues x e))
      ∙ eval_hom residues 𝔾 residues→𝔾 x e
      ∙ ap (λ g. eval 𝔾 g e) (fun_ext (λ c. residues→𝔾.on_nat (x c)))

  pub remainder_is : (e : Expr Cell) → eval residues x e % p ≡ val (eval 𝔾 env e)
  remainder_is e = sym (val-nat (eval residues x e)) ∙ ap val (value-is e)

  pub equation_is : (a b : Expr Cell) → holds x (a ≐ b) ≡ same (eval 𝔾 env a) (eval 𝔾 env b)
  unfolding holds
  equation_is a b = ap₂ eqb (remainder_is a) (remainder_is b)
