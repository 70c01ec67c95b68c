-- The values of a stream of bytes, block by block.
use mathlib.Core.Path.{◌≡◌, refl, sym, ap, ap₂, ◌∙◌}
use mathlib.Core.List.{List, ◌∷◌}
use Prim.Native.Nat.{ℕ, zero, suc, ◌+◌, ◌-◌, ◌*◌, ◌≤◌, ◌<◌}
use native.Mathlib.Omega.{arith}
use lib.ListN.{length, take, drop, length-drop}
use lib.Seq.{take-take, take-add, drop_at, drop-drop, length-take-le}
use Rattle.words.specs.Words.{words, little_endian}
use Rattle.run_pairs.specs.Run.{row_at}

words-drop : (k m : ℕ) (b : List ℕ) → drop k (words (k + m) b) ≡ words m (drop (8 * k) b)
unfolding words
words-drop zero m b = let e : 0 + m ≡ m = omega arith in rw e
words-drop (suc k) m b =
    let e : suc k + m ≡ suc (k + m) = omega arith in
    let d : 8 + 8 * k ≡ 8 * suc k = omega arith in
    rw e (words-drop k m (drop 8 b) ∙ ap (words m) (drop-drop (8 * k) 8 b ∙ ap (λ (n : ℕ). drop n b) d))

words_take : (k m : ℕ) (b : List ℕ) → take k (words (k + m) b) ≡ words k b
unfolding words
words_take zero m b = refl
words_take (suc k) m b =
    let e : suc k + m ≡ suc (k + m) = omega arith in
    rw e (ap (λ (l : List ℕ). little_endian (take 8 b) ∷ l) (words_take k m (drop 8 b)))

-- values depend on their own bytes only
words_prefix : (k : ℕ) (b : List ℕ) → 8 * k ≤ length b → words k (take (8 * k) b) ≡ words k b
unfolding words
words_prefix zero b h = refl
words_prefix (suc k) b h =
    let e : 8 * suc k ≡ 8 + 8 * k = omega arith in
    let t : take 8 (take (8 * suc k) b) ≡ take 8 b = take-take 8 (8 * suc k) b (omega arith) in
    let l : length (take 8 b) ≡ 8 = length-take-le 8 b (omega arith) in
    let d : drop 8 (take (8 * suc k) b) ≡ take (8 * k) (drop 8 b) =
    ap (λ (n : ℕ). drop 8 (take n b)) e ∙ ap (drop 8) (take-add 8 (8 * k) b) ∙ drop_at (take 8 b) (take (8 * k) (drop 8 b)) 8 l in
    ap₂ (λ (x y : List ℕ). little_endian x ∷ words k y) t d
    ∙ ap (λ (x : List ℕ). little_endian (take 8 b) ∷ x) (words_prefix k (drop 8 b) (rw length-drop (omega arith)))

-- the block that is read for row j holds row j of the run
pub block_row : (n j : ℕ) (b : List ℕ) → 752 * n ≤ length b → j < n → words 94 (take 752 (drop (752 * j) b)) ≡ row_at (words (94 * n) b) j
unfolding row_at
block_row n j b h l =
    let e : 94 * n ≡ 94 * j + (94 + 94 * (n - (j + 1))) = omega arith in
    let d : 8 * (94 * j) ≡ 752 * j = omega arith in
    words_prefix 94 (drop (752 * j) b) (rw length-drop (omega arith))
    ∙ sym (words_take 94 (94 * (n - (j + 1))) (drop (752 * j) b))
    ∙ ap (λ (x : List ℕ). take 94 (words (94 + 94 * (n - (j + 1))) x)) (ap (λ (m : ℕ). drop m b) (sym d))
    ∙ ap (take 94) (sym (words-drop (94 * j) (94 + 94 * (n - (j + 1))) b))
    ∙ ap (λ (m : ℕ). take 94 (drop (94 * j) (words m b))) (sym e)
