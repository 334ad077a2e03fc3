use Rattle.std.proofs.Common.{◌∷◌, ◌++◌, [], List, ap, ◌∙◌}
use Rattle.dump_tallies.specs.Tallies.{TalliedDisk}
use Rattle.dump_identity.proofs.room.push_disk.Goals as goal

pub returns : goal.returns
returns c =
    c.push_reserved.ensures.items ∙ ap (λ (ds : List TalliedDisk). ds ++ c.in_ok-disk.disk ∷ []) c.in_ok-reserve.ensures.items
    ∙ ap (λ (d : TalliedDisk). c.args.disks.now.items ++ d ∷ []) c.in_ok-disk.ensures
