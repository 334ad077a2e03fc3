use Rattle.ibm_disks.proofs.Tracks.{are-short, no-disk}
use Rattle.ibm_disks.proofs.disk.IbmDisk.written.Goals as goal

pub returns-in-Some-clause-none : goal.returns-in-Some-clause-none
returns-in-Some-clause-none c =
    no-disk c.args.word.now c.in-Some.numbers c.of_numbers.result c.in-Some.ensures.some c.in-Some.ensures.short c.of_numbers.ensures.none

pub returns-in-None-clause-none : goal.returns-in-None-clause-none
returns-in-None-clause-none c = λ disk word. c.in-None.ensures.none word.numbers (are-short word.numbers disk word.is) word.written
