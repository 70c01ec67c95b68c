-- `tally::count_nonzero` meets its contract.
use Prim.Native.Nat.{◌<◌}
use native.Mathlib.Omega.{arith}
use lib.ListN.{length}
use Rattle.std.proofs.lemmas.Bool.Decides.{nat_tests}
use Rattle.tally.proofs.Laws.{counted_none, counted_all, nonzeros-at, first-at}
use Rattle.tally.proofs.count_nonzero.Goals as goal

pub loop-i-init : goal.loop-i-init
loop-i-init c = counted_none _

pub loop-i-preserved : goal.loop-i-preserved
loop-i-preserved c =
    let h : c.loop-i.i < length c.args.values.now = omega arith in
    grind (arith, nat_tests, nonzeros-at c.args.values.now c.loop-i.i h, first-at c.args.values.now c.loop-i.i h)

pub returns : goal.returns
returns c =
    let e = counted_all _ _ _ _ c.loop-i.invariant (omega arith) in
    λ j. record { count = e.0 j; lowest = e.1 j }
