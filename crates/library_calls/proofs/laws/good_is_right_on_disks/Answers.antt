use Rattle.library_calls.proofs.DiskSectors.{each_has_one_verdict, good_is_right_on_disks, lines_name_verdicts, others_are_zeros}
use Rattle.library_calls.proofs.laws.good_is_right_on_disks.Goals as goal

pub returns-clause-verdicts : goal.returns-clause-verdicts
returns-clause-verdicts c = each_has_one_verdict c.tracks_are_read.ensures c.planned_sectors_are_said.ensures

pub returns-clause-lines : goal.returns-clause-lines
returns-clause-lines c = lines_name_verdicts c.tracks_are_read.ensures c.planned_sectors_are_said.ensures

pub returns-clause-good : goal.returns-clause-good
returns-clause-good c = good_is_right_on_disks c.tracks_are_read.ensures c.planned_sectors_are_said.ensures c.plans_are_right.ensures.good

pub returns-clause-others : goal.returns-clause-others
returns-clause-others c = others_are_zeros c.tracks_are_read.ensures c.planned_sectors_are_said.ensures
