-- Room for what a program prints of a pair.
use Rattle.std.specs.Prelude.{ℕ, ◌*◌}

-- room for the text of any pair: 226 lines of at most 31 bytes
abbrev pub pair_bytes : ℕ
pair_bytes = 226 * 31
