-- Numbers as decimal text.
use Rattle.std.specs.Prelude.{cond, List, [], ◌∷◌, ◌++◌, ℕ, zero, suc, ◌+◌, ◌/◌, ◌%◌, ℤ, pos, negsuc, ltb}

-- the ASCII code of a digit: 48 is that of 0
abbrev pub digit : ℕ → ℕ
digit d = 48 + d

-- the decimal digits of n, which has at most k + 1 of them, with no zeros in front
unfoldable pub digits_of : ℕ → ℕ → List ℕ
digits_of zero n = digit n ∷ []
digits_of (suc k) n = cond (ltb n 10) (digit n ∷ []) (digits_of k (n / 10) ++ (digit (n % 10) ∷ []))

-- the decimal digits of a 64-bit number: at most 20
unfoldable pub decimal_of : ℕ → List ℕ
decimal_of n = digits_of 19 n

-- a signed number: its digits, behind a minus sign (45) where it is negative; `negsuc n` is -(n + 1)
abbrev pub signed_decimal : ℤ → List ℕ
signed_decimal (pos n) = decimal_of n
signed_decimal (negsuc n) = 45 ∷ decimal_of (suc n)
