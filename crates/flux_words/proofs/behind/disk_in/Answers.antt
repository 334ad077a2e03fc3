use Rattle.flux_words.specs.G64Disks.{format_of}
use Rattle.flux_words.proofs.behind.disk_in.Goals as goal

pub returns-in-None-clause-none : goal.returns-in-None-clause-none
returns-in-None-clause-none c = λ disk are. c.in-None.ensures.none (format_of disk) are
