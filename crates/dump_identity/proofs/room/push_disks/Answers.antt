use Rattle.dump_identity.proofs.Rooms.{single-all}
use Rattle.dump_identity.proofs.room.push_disks.Goals as goal

pub push_disk-requires : goal.push_disk-requires
push_disk-requires c = single-all c.args.format
