-- By what names are read: the recording, the cell and the ring of a rate.
use Rattle.std.specs.Prelude.{ℕ, Bool, List, [], ◌∷◌}
use Rattle.flux_engine.specs.Recordings.{cells_of}
use Rattle.ibm_disks.specs.GapPlans.{track_bytes}
use Rattle.ibm_disks.specs.Numbers.{size_of}
use Rattle.ibm_disks.specs.declared.disk.IbmDisk.{IbmDisk}
use Rattle.ibm_disks.specs.declared.rate.Rate.{Rate}
use Rattle.ibm_disks.specs.declared.rate.Rate.TheVariants.{Double, High, HighAt360, Single}
use Rattle.ibm_disks.specs.declared.rate.Rate.TheVariants.{SingleAt360}
use Rattle.ibm_disks.specs.declared.sector_size.SectorSize.{SectorSize}
use Rattle.ibm_disks.specs.declared.sector_size.SectorSize.TheVariants.{Bytes128}
use Rattle.ibm_disks.specs.declared.track_numbers.LeadIn.TheVariants.{Indexed}
use Rattle.ibm_disks.specs.declared.track_numbers.TrackNumbers.{TrackNumbers}
use Rattle.ibm_disks.specs.declared.word.DiskNumbers.{DiskNumbers}
use Rattle.sector_images.specs.declared.format.Format.{Format}
use Rattle.sector_images.specs.declared.format.Format.TheVariants.{Numbered}

-- all rates, in their order
abbrev pub rates : List Rate
rates = Double ∷ High ∷ HighAt360 ∷ Single ∷ SingleAt360 ∷ []

-- The numbers of a disk of a rate with one track, of one sector of a size, and the disk: it has the
-- rate's recording, cell and ring, and sectors of that size.
abbrev pub numbers_with_one : Rate → SectorSize → DiskNumbers
numbers_with_one rate size = record {
  rate = rate;
  cylinders = 1;
  heads = 1;
  sectors = 1;
  sector_bytes = size_of size;
  first_sector = 1;
}

abbrev pub track_with_one : Rate → SectorSize → TrackNumbers
track_with_one rate size = record {
  sectors = 1;
  first_sector = 1;
  size = size;
  lead_in = Indexed;
  sector_gap = 80;
  bytes = track_bytes rate;
}

abbrev pub disk_with_one : Rate → SectorSize → IbmDisk
disk_with_one rate size =
    record { cylinders = 1; heads = 1; rate = rate; track = track_with_one rate size }

abbrev pub format_with_one : Rate → SectorSize → Format
format_with_one rate size = Numbered (disk_with_one rate size)

-- the cells that are recovered by a rate, by the clock that follows the drive
abbrev pub cells_at : Rate → (times indexes : List ℕ) → List Bool
cells_at rate times indexes =
    cells_of (format_with_one rate Bytes128) (record { cylinder = 0; head = 0 }) times indexes
