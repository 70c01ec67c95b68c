-- How the functions of this crate go through the definitions of specs/.
use mathlib.Core.Path.{◌≡◌, refl, ap, ◌∙◌}
use mathlib.Core.List.{List, [], ◌∷◌, ◌++◌}
use Prim.Native.Nat.{ℕ, zero, suc, ◌+◌, ◌-◌, ◌*◌, ◌≤◌, ◌<◌}
use native.Mathlib.Numerals.{add-one}
use native.Mathlib.Omega.{arith}
use lib.ListN.{length, take, drop, set, length-drop}
use lib.Seq.{take_all, take-suc-set, drop-drop}
use Rattle.std.specs.Array.{IsFirstChunk}
use Rattle.std.specs.Int.{w64, from_le_bytes}
use Rattle.words.specs.Words.{little_endian, words}

-- the first eight bytes, low byte first, as the library adds them up
eight_bytes : (d : List ℕ) → 8 ≤ length d → from_le_bytes w64 (take 8 d) ≡ little_endian (take 8 d)
unfolding little_endian
eight_bytes [] h = absurd (omega arith)
eight_bytes (a ∷ []) h = absurd (omega arith)
eight_bytes (a ∷ b ∷ []) h = absurd (omega arith)
eight_bytes (a ∷ b ∷ c ∷ []) h = absurd (omega arith)
eight_bytes (a ∷ b ∷ c ∷ d ∷ []) h = absurd (omega arith)
eight_bytes (a ∷ b ∷ c ∷ d ∷ e ∷ []) h = absurd (omega arith)
eight_bytes (a ∷ b ∷ c ∷ d ∷ e ∷ f ∷ []) h = absurd (omega arith)
eight_bytes (a ∷ b ∷ c ∷ d ∷ e ∷ f ∷ g ∷ []) h = absurd (omega arith)
eight_bytes (a ∷ b ∷ c ∷ d ∷ e ∷ f ∷ g ∷ i ∷ r) h = omega arith

pub word_is : {d chunk : List ℕ} → IsFirstChunk d chunk 8 → from_le_bytes w64 chunk ≡ little_endian (take 8 d)
word_is {d} {chunk} e = ap (λ (l : List ℕ). from_le_bytes w64 l) e.same ∙ eight_bytes d e.enough

words_snoc : (i : ℕ) (b : List ℕ) → words (suc i) b ≡ words i b ++ (little_endian (take 8 (drop (8 * i) b)) ∷ [])
unfolding words
words_snoc zero b = refl
words_snoc (suc i) b =
    let e : 8 * suc i ≡ 8 + 8 * i = omega arith in
    ap (λ (l : List ℕ). little_endian (take 8 b) ∷ l) (words_snoc i (drop 8 b) ∙ rw (drop-drop, e))

pub words-none : (b out : List ℕ) → take 0 out ≡ words 0 b
unfolding words
words-none b out = refl

-- a turn of `words::decode`
pub words_more : (b out : List ℕ) (i r : ℕ) → i < length out → 8 * i ≤ length b → take i out ≡ words i b
    → r ≡ little_endian (take 8 (take (length b - 8 * i) (drop (8 * i) b))) → take (i + 1) (set out i r) ≡ words (i + 1) b
words_more b out i r h k e q =
    let rest = take_all (length b - 8 * i) (drop (8 * i) b) (rw length-drop (omega arith)) in
    rw (add-one, take-suc-set, words_snoc, e, q, rest)
