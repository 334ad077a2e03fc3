use Rattle.ibm_disks.proofs.Printed.{printed_words_name_disks, words_name_disks}
use Rattle.ibm_disks.proofs.disk.words_name_disks.Goals as goal

pub returns-clause-one : goal.returns-clause-one
returns-clause-one c = words_name_disks

pub returns-clause-printed : goal.returns-clause-printed
returns-clause-printed c = printed_words_name_disks
