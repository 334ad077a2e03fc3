use Rattle.ibm_disks.specs.lemmas.DiskLaws.{all_have_disks}
use Rattle.ibm_disks.proofs.disk.disks_have_tracks.Goals as goal

pub returns : goal.returns
returns c = all_have_disks
