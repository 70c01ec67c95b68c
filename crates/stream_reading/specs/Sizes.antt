-- The sizes of the buffers.
use Rattle.std.specs.Prelude.{ℕ, ◌*◌}
use Rattle.stream_model.specs.Model.{row_bytes}

-- the bytes of a block: as many whole rows as 64 KiB hold
abbrev pub block_bytes : ℕ
block_bytes = 87 * row_bytes
