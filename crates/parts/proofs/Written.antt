-- How many values entries have.
use Prim.Native.Nat.{ℕ, suc}
use mathlib.Core.Path.{◌≡◌, refl, ap}
use mathlib.Core.List.{List, [], ◌∷◌}
use lib.ListN.{length}
use Rattle.residue.specs.Residues.{residues}
use Rattle.table.specs.Cells.{Cell}
use Rattle.table.specs.Entry.{Entry, values}

pub length-values : (env : Cell → ℕ) (es : List Entry) → length (values residues env es) ≡ length es
unfolding values
length-values env [] = refl
length-values env (e ∷ es) = ap suc (length-values env es)
