-- `runs::walk` meets its contract.
use mathlib.Core.Path.{◌≡◌, sym, ap, ◌∙◌}
use Prim.Native.Nat.{◌<◌}
use native.Mathlib.Omega.{arith}
use Rattle.table.specs.Table.{pair_values}
use Rattle.table.specs.declared.Pair.{Pair}
use Rattle.tally.specs.Tally.{tally_of}
use Rattle.tally.specs.declared.Tally.{Tally}
use Rattle.run_pairs.specs.Run.{pair_at}
use Rattle.answers.specs.declared.Spot.TheVariants.{At}
use Rattle.runs.proofs.Found.{passed, failed, found-report}
use Rattle.runs.proofs.walk.Goals as goal
use Rattle.runs.proofs.walk.Goals.{After-pair_tally-tally, then-tally-ne0, else-tally-ne0}

-- the tally is that of the pair's values
tallied : (c : After-pair_tally-tally) → c.pair_tally-tally.result ≡ tally_of (pair_at c.args.run.words.now c.args.run.masks.now c.rows-rows.result c.loop-i.i)
unfolding pair_at
tallied c =
    rw c.rows-rows.ensures
    (c.pair_tally-tally.ensures ∙ ap (λ (q : Pair). tally_of (pair_values q.masks q.lv q.nv q.z_last q.lagrange_basis_first)) c.pair.ensures)

pub loop-i-preserved : goal.loop-i-preserved
loop-i-preserved c =
    let h : c.loop-i.i < c.rows-rows.result = omega arith in
    let e = tallied c.before.before in
    let z = ap (λ (t : Tally). t.count) e in
    let y = ap (λ (t : Tally). At c.loop-i.i t.lowest) e in
    elim c.if-tally-ne0.branch [
      | then-tally-ne0 w ↦ rw (w.failing-is, w.spot-is) (failed _ _ _ h _ _ c.loop-i.invariant _ (λ q. w.if-tally-ne0.true (z ∙ q)) (λ b. grind (arith, y)) (λ b. grind arith))
      | else-tally-ne0 w ↦ rw (w.failing-is, w.spot-is) (passed _ _ _ h _ _ c.loop-i.invariant (sym z ∙ w.if-tally-ne0.false))
    ]

pub returns : goal.returns
returns c = rw c.rows-rows.ensures (found-report _ _ _ _ _ (rw c.rows-rows.ensures at c.loop-i.invariant) (omega arith))
