-- The field with p elements.
use Rattle.std.specs.Prelude.{ℕ}
use Rattle.std.proofs.Common.{lit<}
use Rattle.algebra.specs.Ring.{Ops}
use Rattle.algebra.specs.Prime.{p}
use Rattle.algebra.specs.Modulo.{modulo}

-- shut: its operations are seen through the laws of proofs/Field.antt
unfoldable pub 𝔾 : Ops
𝔾 = modulo p (lit< tt)

-- the number of an element, which is below p
unfoldable pub val : 𝔾.F → ℕ
unfolding 𝔾
val a = a.0
