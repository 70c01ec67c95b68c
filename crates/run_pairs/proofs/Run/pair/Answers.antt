-- `Run::pair` meets its contract.
use native.Mathlib.Omega.{arith}
use Rattle.run_pairs.proofs.Parts.{masks-are}
use Rattle.run_pairs.proofs.Run.pair.Goals as goal

pub lend-requires : goal.lend-requires
lend-requires c =
    let m = masks-are c.args.self.words.now c.args.self.masks.now c.args.self.accepted in
    (omega arith, (m.size, m.below))
