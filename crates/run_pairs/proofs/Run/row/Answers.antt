-- `Run::row` meets its contract.
use mathlib.Core.Path.{◌∙◌}
use native.Mathlib.Omega.{arith}
use Rattle.run_pairs.proofs.Parts.{row_part, row_is}
use Rattle.run_pairs.proofs.Run.row.Goals as goal

pub lend-requires : goal.lend-requires
lend-requires c =
    let r = row_is c.args.self.words.now c.args.self.masks.now c.args.self.accepted c.args.i c.requires in
    rw row_part (omega arith, (r.size, r.below))

pub returns : goal.returns
returns c = c.lend.ensures ∙ row_part c.args.self.words.now c.args.i
