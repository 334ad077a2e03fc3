use Rattle.std.proofs.Common.{sym, subst, ℕ}
use Rattle.ibm_disks.specs.Disks.{IsDiskOf}
use Rattle.ibm_disks.specs.declared.word.DiskNumbers.{DiskNumbers}
use Rattle.dump_numbers.specs.Rates.{disk_with_one, numbers_with_one}
use Rattle.dump_numbers.proofs.OneSector.{disk_is}
use Rattle.dump_numbers.proofs.rates.disk_with_one.Goals as goal

pub unreachable-requires : goal.unreachable-requires
unreachable-requires c =
    c.in-None.ensures.none (disk_with_one c.args.rate c.args.size)
    (subst (λ (bytes : ℕ). let n : DiskNumbers = record (numbers_with_one c.args.rate c.args.size) { sector_bytes = bytes } in IsDiskOf n (disk_with_one c.args.rate c.args.size))
    (sym c.bytes.ensures) (disk_is c.args.rate c.args.size))
