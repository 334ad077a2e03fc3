use Rattle.std.proofs.Common.{◌≡◌, map, take}
use Rattle.std.specs.List.{flat_map}
use Rattle.sector_images.specs.Formats.{formats}
use Rattle.dump_identity.specs.Candidates.{candidates_of}
use Rattle.dump_identity.specs.Trials.{trial_of}
use Rattle.dump_identity.proofs.room.named_disks.Given as goal

abbrev pub invariant-loop-format : goal.invariant-loop-format
invariant-loop-format l = l.disks.items ≡ map trial_of (flat_map candidates_of (take l.format-index formats))
