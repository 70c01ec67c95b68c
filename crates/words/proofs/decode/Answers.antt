-- `words::decode` meets its contract.
use mathlib.Core.Path.{◌≡◌}
use Prim.Native.Nat.{◌≤◌}
use native.Mathlib.Omega.{arith}
use lib.ListN.{length}
use lib.Seq.{take_all}
use Rattle.words.proofs.Laws.{words-none, words_more}
use Rattle.words.proofs.decode.Goals as goal

pub loop-i-init : goal.loop-i-init
loop-i-init c = words-none c.args.bytes.now c.args.out.now

pub loop-i-preserved : goal.loop-i-preserved
loop-i-preserved c = words_more _ _ _ _ (omega arith) (omega arith) c.loop-i.invariant c.word.ensures

pub returns : goal.returns
returns c =
    let h : length c.loop-i.out ≤ c.loop-i.i = omega arith in
    let e : c.loop-i.i ≡ length c.args.out.now = omega arith in
    rw (take_all _ _ h, e) at c.loop-i.invariant
