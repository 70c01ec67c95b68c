-- The next row does not matter to the masks of a kind.
use Prim.Native.Nat.{ℕ}
use mathlib.Core.Path.{◌≡◌, refl, ap₂}
use mathlib.Core.Bool.{◌||◌}
use mathlib.Core.List.{List, [], ◌∷◌}
use Rattle.algebra.specs.Expr.{eval}
use Rattle.table.specs.Columns.{COL-OPCODE as OPCODE}
use Rattle.table.specs.Cells.{Cell, cells, lv, mask}
use Rattle.rulebook.specs.Rule.{Rule, ◌≐◌, holds}
use Rattle.rulebook.specs.Words.{some}
use Rattle.rulebook.specs.Rulebook.{masks_of}
use Rattle.judge_opcode.specs.Opcode.{opcode_of}

some_same : (x y : Cell → ℕ) (g : ℕ → Rule) → ((j : ℕ) → holds x (g j) ≡ holds y (g j)) → (js : List ℕ) → holds x (some js g) ≡ holds y (some js g)
unfolding holds
some_same x y g h [] = refl
some_same x y g h (j ∷ js) = ap₂ ◌||◌ (h j) (some_same x y g h js)

pub opcode_next : (m l n : List ℕ) (z f k : ℕ) → holds (cells m l n z f) (opcode_of k) ≡ holds (cells m l [] 0 0) (opcode_of k)
unfolding holds eval
opcode_next m l n z f k = some_same _ _ (λ j. lv OPCODE ≐ mask j) (λ j. refl) (masks_of k)
