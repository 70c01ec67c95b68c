-- A program on zero rows: its state after each, and what it prints last.
use mathlib.Core.Path.{◌≡◌, refl, ap}
use mathlib.Core.Bool.{false}
use mathlib.Core.List.{[], ◌∷◌, ◌++◌}
use Prim.Native.Nat.{ℕ, zero, suc, ◌+◌, ◌-◌, ◌<◌}
use native.Mathlib.Omega.{arith}
use lib.ListN.{replicate}
use lib.Dec.{eqb}
use borrow.Author.Tests.{lt-leb, ne_eqb}
use Rattle.algebra.specs.Prime.{p}
use Rattle.refusals.specs.Refusal.{canonical, distinct}
use Rattle.run_pairs.specs.Run.{first_weight}
use Rattle.words.specs.Words.{words, little_endian}
use Rattle.stream_model.specs.Model.{PairText, row_bytes, pair_text, accept_of, row_of, end_of, feed_of, masks_of, start_of}
use Rattle.worked.specs.Rows.{powers, zeros, bytes_of_all, after}
use Rattle.worked.proofs.Worked.{worked}

-- the masks
pub masks-taken : (start_of (bytes_of_all powers)).state ≡ after 0
unfolding start_of masks_of canonical distinct words little_endian
masks-taken = refl

module _ (text : PairText) where
  -- one more zero row
  pub row-taken : (n : ℕ) → n < 65536 → (feed_of text (after n) (replicate row_bytes 0)).state ≡ after (n + 1)
  unfolding feed_of row_of accept_of words little_endian canonical
  row-taken n h = rw (lt-leb 65536 n h) (go n)
    where
      go : (n : ℕ) → (accept_of text (after n) zeros).state ≡ after (n + 1)
      go zero = refl
      go (suc n) = let z : eqb (suc n) 0 ≡ false = ne_eqb (suc n) 0 (λ e. omega arith) in rw z

  -- the end of the input, after n rows
  pub end-text : (n : ℕ) → 0 < n
      → (feed_of text (after n) []).text ≡ text (n - 1) (replicate 103 0 ++ (1 ∷ replicate 43 0) ++ ((p - 1) ∷ replicate 78 0))
  unfolding feed_of end_of pair_text
  end-text n h =
      let z : eqb n 0 ≡ false = ne_eqb n 0 (λ e. omega arith) in
      rw z (ap (text (n - 1)) (worked.zero_row_values (first_weight (n - 1))))
