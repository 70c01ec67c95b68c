-- `put` of `Faults` meets its contract: after i values the lines of the first i are put.
use mathlib.Core.Path.{◌≡◌, sym, ap, ◌∙◌}
use mathlib.Core.Logic.{◌≢◌}
use mathlib.Core.List.{List, append_assoc, append-nil}
use Prim.Native.Nat.{ℕ, ◌+◌, ◌≤◌, ◌<◌}
use native.Mathlib.Omega.{arith}
use lib.ListN.{length, take, get_or, length-append}
use lib.Dec.{lit<}
use lib.Seq.{take_all}
use borrow.Author.Rules.{rules}
use Rattle.algebra.specs.Prime.{p}
use Rattle.algebra.proofs.Lists.{all_at}
use Rattle.stream_text.specs.Faults.{faults_of_pair}
use Rattle.stream_lines.proofs.Laws.{none_yet, skipped, more, room-left}
use Rattle.stream_lines.proofs.FaultsPairText.put.Goals as goal
use Rattle.stream_lines.proofs.FaultsPairText.put.Goals.{then-listed, else-listed}

pub loop-i-init : goal.loop-i-init
loop-i-init g c = sym (rw (none_yet c.args.index) (append-nil c.args.out.now))

pub fault-requires : goal.fault-requires
fault-requires g c =
    let b = all_at (λ v. v < p) 0 (lit< tt) c.args.values.now c.requires.below c.loop-i.i in
    let r = room-left c.args.index c.args.values.now c.loop-i.i (omega arith) c.requires.index c.requires.few in
    let l : length c.loop-i.out ≡ length c.args.out.now + length (faults_of_pair c.args.index (take c.loop-i.i c.args.values.now)) =
    ap (λ (l : List ℕ). length l) c.loop-i.invariant ∙ length-append c.args.out.now _
    in
    (search rules, (omega arith, (c.requires.index, (omega arith, b))))

pub loop-i-preserved : goal.loop-i-preserved
loop-i-preserved g c =
    elim c.if-listed.branch [
      | then-listed w ↦
          (let n : get_or c.args.values.now c.loop-i.i 0 ≢ 0 = w.if-listed.true in
          rw (w.out-is, w.fault.ensures, c.loop-i.invariant, more c.args.index c.args.values.now c.loop-i.i (omega arith) n)
          (append_assoc c.args.out.now _ _))
      | else-listed w ↦
          (let z : get_or c.args.values.now c.loop-i.i 0 ≡ 0 = w.if-listed.false in
          rw (w.out-is, skipped c.args.index c.args.values.now c.loop-i.i (omega arith) z) c.loop-i.invariant)
    ]

pub returns : goal.returns
returns g c =
    let h : length c.args.values.now ≤ c.loop-i.i = omega arith in
    rw (take_all c.loop-i.i c.args.values.now h) at c.loop-i.invariant
