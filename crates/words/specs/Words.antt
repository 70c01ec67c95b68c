-- Values in a byte stream: "each value 8 bytes, low byte first" (document 01).
use Rattle.std.specs.Prelude.{List, [], ◌∷◌, ℕ, zero, suc, ◌+◌, ◌*◌, take, drop}

-- the number whose bytes these are, low byte first
unfoldable pub little_endian : List ℕ → ℕ
little_endian [] = 0
little_endian (b ∷ bs) = b + 256 * little_endian bs

-- the first n values of the bytes, eight bytes each
unfoldable pub words : ℕ → List ℕ → List ℕ
words zero bytes = []
words (suc n) bytes = little_endian (take 8 bytes) ∷ words n (drop 8 bytes)
