-- `stream_steps::with_masks` meets its contract: what turns masks back is their contents, 5.
use Rattle.std.proofs.Common.{sym, ap, ◌∙◌}
use Rattle.refusals.specs.Refusal.{mask_contents}
use Rattle.refusals.proofs.Laws.{one_refused}
use Rattle.stream_model.specs.Model.{ended, masks_of}
use Rattle.stream_steps.proofs.with_masks.Goals as goal

pub returns-in-Err : goal.returns-in-Err
unfolding masks_of
returns-in-Err g c =
    let k = one_refused (mask_contents c.args.masks) c.in-Err.refusal c.in-Err.ensures.number in
    record {
      state_is = rw k.0 (c.refuse.ensures.state_is ∙ ap ended c.blank-next.ensures);
      text_is = rw (k.0, sym k.1) c.refuse.ensures.text_is;
    }
