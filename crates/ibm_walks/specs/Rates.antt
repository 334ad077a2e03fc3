-- By what headers of any IBM disk are read: the recording, the cell and the ring of a rate.
use Rattle.std.specs.Prelude.{ℕ, Bool, List, [], ◌∷◌}
use Rattle.flux_engine.specs.Recordings.{cells_by}
use Rattle.ibm_disks.specs.GapPlans.{track_bytes}
use Rattle.ibm_disks.specs.Numbers.{size_of}
use Rattle.ibm_disks.specs.declared.disk.IbmDisk.{IbmDisk}
use Rattle.ibm_disks.specs.declared.rate.Rate.{Rate}
use Rattle.ibm_disks.specs.declared.rate.Rate.TheVariants.{Double, High, HighAt360, Single}
use Rattle.ibm_disks.specs.declared.rate.Rate.TheVariants.{SingleAt360}
use Rattle.ibm_disks.specs.declared.sector_size.SectorSize.{SectorSize}
use Rattle.ibm_disks.specs.declared.sector_size.SectorSize.TheVariants.{Bytes128}
use Rattle.ibm_disks.specs.declared.track_numbers.LeadIn.TheVariants.{Indexed}
use Rattle.ibm_disks.specs.declared.word.DiskNumbers.{DiskNumbers}
use Rattle.sector_images.specs.declared.format.Format.{Format}
use Rattle.sector_images.specs.declared.format.Format.TheVariants.{Numbered}
use Rattle.turn_merge.specs.declared.clock.Clock.{Clock}

-- The numbers of a disk of a rate with one track, of one sector of a size, and the disk: it has the
-- rate's recording, cell and ring, and sectors of that size.
abbrev pub numbers_with_one : Rate → SectorSize → DiskNumbers
numbers_with_one rate size = record {
  rate = rate;
  cylinders = 1;
  heads = 1;
  sectors = 1;
  sector_bytes = size_of size;
  first_sector = 1;
}

abbrev pub disk_with_one : Rate → SectorSize → IbmDisk
disk_with_one rate size =
    record {
      cylinders = 1;
      heads = 1;
      rate = rate;
      track = record {
        sectors = 1;
        first_sector = 1;
        size = size;
        lead_in = Indexed;
        sector_gap = 80;
        bytes = track_bytes rate;
      };
    }

abbrev pub format_with_one : Rate → SectorSize → Format
format_with_one rate size = Numbered (disk_with_one rate size)

-- the cells that a clock recovers by a rate
abbrev pub cells_at : Clock → Rate → (times indexes : List ℕ) → List Bool
cells_at clock rate times indexes =
    cells_by clock (format_with_one rate Bytes128) (record { cylinder = 0; head = 0 }) times indexes
