-- The digits that `io::decimal` writes are those of the definition.
use mathlib.Core.Path.{◌≡◌, refl, sym, ap, ap₂, ◌∙◌}
use mathlib.Core.Bool.{Bool, true, false, cond}
use mathlib.Core.List.{List, [], ◌∷◌, ◌++◌}
use Prim.Native.Nat.{ℕ, zero, suc, ◌+◌, ◌-◌, ◌*◌, ◌/◌, ◌%◌, ◌^◌, ◌≤◌, ◌<◌}
use native.Mathlib.Omega.{arith}
use native.Mathlib.Nat.{pow-suc, one-le-pow, pow-le-pow_right}
use lib.ListN.{length, length-append}
use lib.Dec.{leb, ltb, lit<}
use borrow.Author.Tests.{lt-ltb, le-ltb, leb-true, leb-false}
use Rattle.io.specs.Digits.{hex_digit_ascii, last_digits, IsDigitCount}
use Rattle.text.specs.Decimal.{digit, digits_of, decimal_of}

-- `io::decimal` writes the digits of the definition
glyph_digit : (d : ℕ) → d < 10 → hex_digit_ascii d ≡ 48 + d
glyph_digit d h = simp (lt-ltb _ _ h)

small : (f n : ℕ) → n < 10 → digits_of f n ≡ (48 + n) ∷ []
unfolding digits_of
small zero n h = refl
small (suc f) n h = simp (lt-ltb _ _ h)

digits_are : (k n f : ℕ) → n < 10 ^ suc k → (1 < suc k → 10 ^ (suc k - 1) ≤ n) → k ≤ f
    → last_digits 10 (suc k) n ≡ digits_of f n
unfolding digits_of
digits_are zero n f a b c =
    let m : n % 10 ≡ n = omega arith in
    ap (λ (d : ℕ). hex_digit_ascii d ∷ []) m ∙ ap (λ (d : ℕ). d ∷ []) (glyph_digit n a) ∙ sym (small f n a)
digits_are (suc k) n zero a b c = absurd (omega arith)
digits_are (suc k) n (suc f) a b c =
    let p : 10 ^ suc (suc k) ≡ 10 ^ suc k * 10 = pow-suc 10 (suc k) in
    let q : 10 ^ suc k ≡ 10 ^ k * 10 = pow-suc 10 k in
    let s : suc (suc k) - 1 ≡ suc k = omega arith in
    let t : suc k - 1 ≡ k = omega arith in
    let z : 1 ≤ 10 ^ k = one-le-pow k 10 (omega arith) in
    let l : 10 ^ suc k ≤ n = rw s at (b (omega arith)) in
    simp (le-ltb n 10 (omega arith))
    (ap₂ (λ (x : List ℕ) (y : ℕ). x ++ (y ∷ []))
    (digits_are k (n / 10) f (omega arith) (λ h. rw t (omega arith)) (omega arith))
    (glyph_digit (n % 10) (omega arith)))

count_few : (n r : ℕ) → IsDigitCount 10 1 n r → n < 2 ^ 64 → r ≤ 20
count_few n r w h = go (leb r 20) refl
  where
    go : (t : Bool) → leb r 20 ≡ t → r ≤ 20
    go true p = leb-true r 20 p
    go false p =
        let q : 20 < r = leb-false r 20 p in
        let m : 10 ^ 20 ≤ 10 ^ (r - 1) = pow-le-pow_right {n = 10} (lit< tt) {i = 20} {j = r - 1} (omega arith) in
        let k : 10 ^ (r - 1) ≤ n = w.2 (omega arith) in
        absurd (omega arith)

-- the decimal of a number is its last digits, as many as it has, where those are at most 20
pub decimal_is_few : (n r : ℕ) → IsDigitCount 10 1 n r → r ≤ 20 → last_digits 10 r n ≡ decimal_of n
unfolding decimal_of
decimal_is_few n zero w f = absurd (omega (arith, w.0))
decimal_is_few n (suc k) w f = digits_are k n 19 w.1 w.2 (omega arith)

pub decimal_is : (n r : ℕ) → IsDigitCount 10 1 n r → n < 2 ^ 64 → last_digits 10 r n ≡ decimal_of n
decimal_is n r w h = decimal_is_few n r w (count_few n r w h)

-- a number has at most j + 1 digits where it is below 10 ^ (j + 1), or where it is taken to have no more
digits_few : (k j n : ℕ) → (j < k → n < 10 ^ suc j) → length (digits_of k n) ≤ suc j
unfolding digits_of
digits_few zero j n h = omega arith
digits_few (suc k) zero n h = let l : n < 10 = h (omega arith) in simp (lt-ltb _ _ l) (omega arith)
digits_few (suc k) (suc j) n h = go (ltb n 10) (digits_few k j (n / 10) tenth)
  where
    tenth : j < k → n / 10 < 10 ^ suc j
    tenth l =
        let p : 10 ^ suc (suc j) ≡ 10 ^ suc j * 10 = pow-suc 10 (suc j) in
        omega (arith, h (omega arith))

    go : (b : Bool) → length (digits_of k (n / 10)) ≤ suc j
        → length (cond b (digit n ∷ []) (digits_of k (n / 10) ++ (digit (n % 10) ∷ []))) ≤ suc (suc j)
    go true l = omega arith
    go false l = rw length-append (omega arith)

pub decimal_short : (n : ℕ) → length (decimal_of n) ≤ 20
unfolding decimal_of
decimal_short n = digits_few 19 19 n (λ l. absurd (omega arith))

-- a number below 10 ^ (k + 1) has at most k + 1 digits
pub decimal_below : (k n : ℕ) → n < 10 ^ suc k → length (decimal_of n) ≤ suc k
unfolding decimal_of
decimal_below k n h = digits_few 19 k n (λ l. h)
