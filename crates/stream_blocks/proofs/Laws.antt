-- What an iterator over the rows of a block has left, row by row.
use mathlib.Core.Path.{◌≡◌, sym, ap, ◌∙◌}
use mathlib.Core.List.{List, ◌++◌}
use Prim.Native.Nat.{ℕ, ◌+◌, ◌-◌, ◌*◌, ◌/◌, ◌≤◌, ◌<◌}
use native.Mathlib.Omega.{arith}
use lib.ListN.{length, take, drop, length-append, length-drop}
use lib.Seq.{take-append_seam, drop-append_seam, drop-drop}

-- it gives rows of this size, of which it has given n
pub record RowsLeft (bytes rest : List ℕ) (size n : ℕ) : Type 0 where
  pub is : rest ≡ drop (752 * n) bytes
  pub size_is : size ≡ 752
  pub within : 752 * n ≤ length bytes

pub none_given : {bytes rest : List ℕ} {size n : ℕ} → rest ≡ bytes → size ≡ 752 → n ≡ 0 → RowsLeft bytes rest size n
none_given {bytes} e s z = record { is = rw z e; size_is = s; within = omega arith }

module _ {bytes rest : List ℕ} {size n : ℕ} (left : RowsLeft bytes rest size n) where
  module _ (row next : List ℕ) (cut : rest ≡ row ++ next) (long : length row ≡ size) where
    pub row-given : row ≡ take 752 (drop (752 * n) bytes)
    row-given =
        sym (take-append_seam row next)
        ∙ ap (λ (k : ℕ). take k (row ++ next)) (long ∙ left.size_is)
        ∙ ap (λ (l : List ℕ). take 752 l) (sym cut ∙ left.is)

    pub one_given : {next_size m : ℕ} → next_size ≡ size → m ≡ n + 1 → RowsLeft bytes next next_size m
    one_given {m = m} s e =
        let d : 752 * n + 752 ≡ 752 * m = omega arith in
        let l : length bytes - 752 * n ≡ 752 + length next =
        sym (length-drop (752 * n) bytes) ∙ ap (λ (l : List ℕ). length l) (sym left.is ∙ cut) ∙ length-append row next
        ∙ ap (λ (k : ℕ). k + length next) (long ∙ left.size_is)
        in
        record {
          is =
              sym (drop-append_seam row next)
              ∙ ap (λ (k : ℕ). drop k (row ++ next)) (long ∙ left.size_is)
              ∙ ap (λ (l : List ℕ). drop 752 l) (sym cut ∙ left.is)
              ∙ drop-drop 752 (752 * n) bytes
              ∙ ap (λ (k : ℕ). drop k bytes) d;
          size_is = s ∙ left.size_is;
          within = omega (arith, left.within);
        }

  pub all_given : length rest < size → n ≡ length bytes / 752
  all_given h =
      let l : length rest ≡ length bytes - 752 * n =
      ap (λ (l : List ℕ). length l) left.is ∙ length-drop (752 * n) bytes
      in
      omega (arith, left.size_is, left.within)
