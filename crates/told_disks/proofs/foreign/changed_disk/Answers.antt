use Rattle.told_disks.proofs.foreign.changed_disk.Goals as goal

pub returns-in-None : goal.returns-in-None
returns-in-None c = λ disk is. c.in-None.ensures disk.disk is.told
