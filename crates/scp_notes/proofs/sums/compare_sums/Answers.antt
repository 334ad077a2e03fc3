use Rattle.std.proofs.Common.{sym, ◌∙◌}
use Rattle.scp_files.specs.lemmas.Beginnings.{sized}
use Rattle.scp_tracks.specs.lemmas.Failing.{none-failed}
use Rattle.scp_notes.proofs.Finding.{compared, unwanted}
use Rattle.scp_notes.proofs.sums.compare_sums.Goals as goal

pub wanted_sum-requires : goal.wanted_sum-requires
wanted_sum-requires g c = sized c.args.header.now c.requires

pub returns-in-None-clause-is : goal.returns-in-None-clause-is
returns-in-None-clause-is g c files file told at front = unwanted c.begins_tell.ensures.files file.bytes c.args.header.now front c.in-None.ensures

pub returns-in-None-clause-told : goal.returns-in-None-clause-told
returns-in-None-clause-told g c = sym (none-failed _)

pub returns-in-Ok-clause-is : goal.returns-in-Ok-clause-is
returns-in-Ok-clause-is g c files file told at front =
    c.differing.ensures
    ∙ compared c.begins_tell.ensures.files file.bytes c.args.header.now front c.in-Some.wanted c.in-Ok.sum (sized c.args.header.now c.requires) c.in-Some.ensures
    (c.in-Ok.ensures.is files file told at)
