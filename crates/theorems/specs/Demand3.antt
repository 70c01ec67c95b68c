-- Demand 3: "Whatever masks document 01 accepts, whatever the two canonical weights, and whatever pair of canonical
-- rows with plain flags: the pair keeps every rule of the rulebook exactly when it folds from zero to zero under more
-- than 225 of the p alphas, and it then does so under all p. The rules are those for a row that is first, last, both or
-- neither, as the two weights tell."
use Rattle.std.specs.Prelude.{◌≡◌, ◌↔◌, true, List, ℕ, ◌<◌}
use Rattle.algebra.specs.Prime.{p}
use Rattle.table.specs.Rows.{Row}
use Rattle.rulebook.specs.Plain.{is_first, is_last, Accepted, pair_keeps, pair_plain}
use Rattle.theorems.specs.ManyFold.{FoldsToZero, Many}

-- "Whatever masks document 01 accepts, whatever the two canonical weights, and whatever pair of canonical rows with
-- plain flags": z is z_last, f is lagrange_basis_first
pub record Given (masks lv nv : List ℕ) (z f : ℕ) : Type 0 where
  pub accepted : Accepted masks
  pub z_below : z < p
  pub f_below : f < p
  pub row : Row lv
  pub next_row : Row nv
  pub plain : pair_plain lv nv ≡ true

-- "the pair keeps every rule of the rulebook": "a row that is first, last, both or neither, as the two weights tell"
abbrev pub KeepsEveryRule : List ℕ → List ℕ → List ℕ → ℕ → ℕ → Type 0
KeepsEveryRule masks lv nv z f = pair_keeps masks lv nv (is_first f) (is_last z) ≡ true

pub record Demand3 (masks lv nv : List ℕ) (z f : ℕ) : Type 0 where
  -- "keeps every rule of the rulebook exactly when it folds from zero to zero under more than 225 of the p alphas"
  pub exactly_when : KeepsEveryRule masks lv nv z f ↔ Many (FoldsToZero masks lv nv z f)
  -- "and it then does so under all p"
  pub under_all : Many (FoldsToZero masks lv nv z f) → (alpha : ℕ) → alpha < p → FoldsToZero masks lv nv z f alpha
