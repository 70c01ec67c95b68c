-- The lines that the programs print, as bytes of ASCII.
use Rattle.std.specs.Prelude.{List, [], ◌∷◌, ◌++◌, ℕ}
use Rattle.text.specs.Decimal.{decimal_of}

abbrev pub space : List ℕ
space = 32 ∷ []

abbrev pub line_end : List ℕ
line_end = 10 ∷ []

-- "index, count of nonzero values, lowest such number or 0, as one decimal line with one space between" (document 01)
unfoldable pub line_of : ℕ → ℕ → ℕ → List ℕ
line_of index count lowest = decimal_of index ++ space ++ decimal_of count ++ space ++ decimal_of lowest ++ line_end

-- "refused" and a space
abbrev pub refused_word : List ℕ
refused_word = 114 ∷ 101 ∷ 102 ∷ 117 ∷ 115 ∷ 101 ∷ 100 ∷ 32 ∷ []

-- "one line, "refused", a space and the number"
unfoldable pub refused_of : ℕ → List ℕ
refused_of number = refused_word ++ decimal_of number ++ line_end
