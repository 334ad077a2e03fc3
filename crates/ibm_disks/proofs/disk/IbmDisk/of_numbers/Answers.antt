use Rattle.std.proofs.Common.{◌≡◌, sym}
use Rattle.ibm_disks.specs.Disks.{track_of_disk}
use Rattle.ibm_disks.specs.lemmas.DiskLaws.{few-parts}
use Rattle.ibm_disks.proofs.Tracks.{is-disk-of}
use Rattle.ibm_disks.proofs.disk.IbmDisk.of_numbers.Goals as goal

pub returns-clause-some : goal.returns-clause-some
returns-clause-some c =
    let numbers = c.args.numbers in
    let cylinders : c.in-Ok.cylinders ≡ numbers.cylinders = c.in-Ok.ensures.1 in
    let heads : c.in-Ok-try_from.heads ≡ numbers.heads = c.in-Ok-try_from.ensures.1 in
    let few = few-parts numbers.cylinders numbers.heads (sym (rw (cylinders, heads) at c.if-not-are_few.ensures)) in
    rw (cylinders, heads) (is-disk-of numbers c.in-Some.track few.0 few.1 few.2 few.3 c.in-Some.ensures.some c.in-Some.ensures.fills)

pub returns-in_default-track_of-clause-none : goal.returns-in_default-track_of-clause-none
returns-in_default-track_of-clause-none c = λ disk is. c.in_default-track_of.ensures.none (track_of_disk disk) is.track
