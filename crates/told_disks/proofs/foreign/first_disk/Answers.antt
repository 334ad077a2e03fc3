use Rattle.told_disks.proofs.foreign.first_disk.Goals as goal

pub returns-in_default : goal.returns-in_default
returns-in_default c = λ disk is. c.in_default.ensures disk.disk is.told
