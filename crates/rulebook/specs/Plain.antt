-- A pair of rows: whether it keeps every rule, whether its flags are plain, which masks are accepted, and what weights tell of its place.
use Rattle.std.specs.Prelude.{◌≡◌, Bool, true, not, ◌&&◌, ◌||◌, List, [], ◌∷◌, ℕ, length, take, eqb}
use Rattle.algebra.specs.Lists.{range}
use Rattle.refusals.specs.Refusal.{canonical, distinct}
use Rattle.table.specs.Cells.{Cell, local, next, cells}
use Rattle.table.specs.Masks.{NUM-MASKS}
use Rattle.table.specs.Columns.{NUM-OP-SELECTOR, COL-IS-EXT-LINE as IS-EXT-LINE, COL-S-SIMPLE-ARITHMATIC-OP as SELECTORS}
use Rattle.rulebook.specs.Kind.{ones}
use Rattle.rulebook.specs.Words.{DIFF, SAME, ENTRY, PAD}
use Rattle.rulebook.specs.Rulebook.{keeps}

-- every number of a list is 0 or 1
unfoldable pub bits : (ℕ → ℕ) → List ℕ → Bool
bits g [] = true
bits g (c ∷ cs) = (eqb (g c) 0 || eqb (g c) 1) && bits g cs

-- "Plain flags: IS_EXT_LINE, entry, diff, same are 0 or 1; IS_EXT_LINE' and pad' too; exactly one next selector is 1, others 0."
unfoldable pub plain_flags : (Cell → ℕ) → Bool
plain_flags x =
    bits (λ c. x (local c)) (IS-EXT-LINE ∷ ENTRY ∷ DIFF ∷ SAME ∷ [])
    && (bits (λ c. x (next c)) (IS-EXT-LINE ∷ PAD ∷ [])
    && (bits (λ c. x (next c)) (range SELECTORS NUM-OP-SELECTOR)
    && eqb (ones (λ c. x (next c)) SELECTORS NUM-OP-SELECTOR) 1))

-- "z_last is 0 exactly on the last row, lagrange_basis_first nonzero exactly on the first."
abbrev pub is_last : ℕ → Bool
is_last z = eqb z 0

abbrev pub is_first : ℕ → Bool
is_first f = not (eqb f 0)

-- masks that are not turned back
pub record Accepted (masks : List ℕ) : Type 0 where
  pub size : length masks ≡ NUM-MASKS
  pub below : canonical masks ≡ true
  pub differ : distinct (take 5 masks) ≡ true

-- whether the pair of rows keeps every rule, for a row that is first, or last; and whether its flags are plain
unfoldable pub pair_keeps : List ℕ → List ℕ → List ℕ → Bool → Bool → Bool
pair_keeps masks lv nv first last = keeps (cells masks lv nv 0 0) first last

unfoldable pub pair_plain : List ℕ → List ℕ → Bool
pair_plain lv nv = plain_flags (cells [] lv nv 0 0)
