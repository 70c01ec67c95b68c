-- `stream_lines::fault` meets its contract.
use mathlib.Core.Path.{ap}
use mathlib.Core.List.{List}
use Prim.Native.Nat.{ℕ}
use native.Mathlib.Omega.{arith}
use lib.ListN.{length, length-append}
use borrow.Author.Rules.{rules}
use Rattle.stream_text.proofs.Short.{signed_short}
use Rattle.stream_lines.proofs.Laws.{pair_digits, number_digits}
use Rattle.stream_lines.proofs.fault.Goals as goal

pub push_byte-requires : goal.push_byte-requires
push_byte-requires g c = (
  search rules,
  omega (
    arith,
    ap (λ (l : List ℕ). length l) c.put_signed.ensures,
    length-append {A = ℕ},
    signed_short c.args.value,
    pair_digits c.args.pair c.requires.pair,
    number_digits c.args.number c.requires.number,
  ),
)
