use Rattle.std.proofs.Common.{◌<◌, arith, sym, subst}
use Rattle.ibm_disks.specs.Disks.{sound}
use Rattle.ibm_disks.specs.declared.disk.IbmDisk.{IbmDisk}
use Rattle.ibm_disks.specs.declared.sector_size.SectorSize.TheVariants.{Bytes128}
use Rattle.ibm_walks.proofs.OneSector.{disk_is}
use Rattle.ibm_walks.proofs.rates.recover_at.Goals as goal

pub recover_cells-requires-clause-track : goal.recover_cells-requires-clause-track
recover_cells-requires-clause-track c =
    subst (λ (d : IbmDisk). (0 < (sound d).cylinders) × (0 < (sound d).heads)) (sym c.disk_with_one.ensures)
    (subst (λ (d : IbmDisk). (0 < d.cylinders) × (0 < d.heads)) (sym (disk_is c.args.rate Bytes128).made) (omega arith, omega arith))
