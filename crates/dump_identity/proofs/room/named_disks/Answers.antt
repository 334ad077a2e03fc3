use Rattle.std.proofs.Common.{◌∙◌}
use Rattle.dump_identity.proofs.Rooms.{trials-all, trials-more}
use Rattle.dump_identity.proofs.room.named_disks.Goals as goal

pub loop-format-preserved : goal.loop-format-preserved
loop-format-preserved c =
    let at = c.loop-format in
    c.in_ok-push_disks.ensures
    ∙ trials-more at.disks.items c.all_formats-format-items.result.now c.all_formats-format-items.ensures at.format-index _ c.loop-format-test.true at.invariant

pub returns-clause-named : goal.returns-clause-named
returns-clause-named c =
    let at = c.loop-format in
    c.in_ok-reserve.ensures.items
    ∙ trials-all at.disks.items c.all_formats-format-items.result.now c.all_formats-format-items.ensures at.format-index c.loop-format-test.false at.invariant
