-- What a test that a branch asked for tells of the definition that it equals.
use mathlib.Core.Path.{◌≡◌, sym, ap, ◌∙◌}
use mathlib.Core.Bool.{Bool, true, false, not, ◌&&◌}
use mathlib.Core.List.{List, [], ◌++◌}
use Prim.Native.Nat.{ℕ}
use lib.ListN.{length, take, drop, take-append-drop}
use borrow.Author.Tests.{not-false}
use Rattle.refusals.specs.Refusal.{Condition, lowest, mask_contents, row_contents, sizes, contents, canonical}
use Rattle.refusals.proofs.Laws.{Clear, clear, clear_front, clear_back, behind, length-is, canonical-below, canonical-append, none_true}
use Rattle.table.specs.Rows.{Row, Rows, Masks}

pub kept : {r b : Bool} → r ≡ b → r ≡ true → not b ≡ false
kept e t = ap not (sym e ∙ t)

-- numbers of which a part is tested first, and then the others
pub canonical_parts : (n : ℕ) (l part others : List ℕ) → part ≡ take n l → others ≡ drop n l →
    canonical l ≡ (canonical part && canonical others)
canonical_parts n l part others e f = rw (e, f) (ap canonical (sym (take-append-drop n l)) ∙ canonical-append (take n l) (drop n l))

-- what is not turned back is as the core asks: a row, masks, and masks and a pair of rows together
pub accepted-row : (row : List ℕ) → length row ≡ 94 → (row_contents row).holds ≡ false → Row row
accepted-row row l e = record { size = l; below = canonical-below row (not-false (canonical row) e) }

pub accepted-masks : (masks : List ℕ) → length masks ≡ 25 → (mask_contents masks).holds ≡ false → Masks masks
accepted-masks masks l e = record { size = l; below = canonical-below masks (not-false (canonical masks) (none_true _ _ e).0) }

module _ (masks lv nv : List ℕ) (s : lowest (sizes masks lv nv) ≡ 0) where
  pub masks-length : length masks ≡ 25
  masks-length = length-is _ _ (clear (sizes masks lv nv) tt s).1.1.0

  module _ (k : lowest (contents masks lv nv) ≡ 0) where
    pub rows_are : Rows lv nv
    rows_are =
        let a = clear (sizes masks lv nv) tt s in
        let b = clear (contents masks lv nv) tt k in
        record {
          local = accepted-row lv (length-is _ _ a.0) b.1.0;
          next = accepted-row nv (length-is _ _ a.1.0) b.1.1.0;
        }

    pub masks-are : Masks masks
    masks-are = accepted-masks masks masks-length (clear (contents masks lv nv) tt k).0

-- the same of a call that no condition turns back: those on sizes, more of them, those on contents, and the rest
module _ (masks lv nv : List ℕ) (more rest : List Condition) (k : Clear (sizes masks lv nv ++ more ++ contents masks lv nv ++ rest)) where
  sizes_clear : lowest (sizes masks lv nv) ≡ 0
  sizes_clear = behind (sizes masks lv nv) [] (clear_front (sizes masks lv nv) (more ++ contents masks lv nv ++ rest) k)

  contents_clear : lowest (contents masks lv nv) ≡ 0
  contents_clear =
      let l = clear_front (sizes masks lv nv ++ more ++ contents masks lv nv) rest k in
      behind (contents masks lv nv) [] (clear_back (sizes masks lv nv ++ more) (contents masks lv nv) l)

  pub call_rows : Rows lv nv
  call_rows = rows_are masks lv nv sizes_clear contents_clear

  pub call_masks : Masks masks
  call_masks = masks-are masks lv nv sizes_clear contents_clear
