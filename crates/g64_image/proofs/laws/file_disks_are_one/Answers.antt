use Rattle.g64_image.proofs.RingReadings.{one_file_disk}
use Rattle.g64_image.proofs.laws.file_disks_are_one.Goals as goal

pub returns : goal.returns
returns c = one_file_disk c.tracks_are_read.ensures
