-- Which disks that have names have one of IBM's two recordings, and which numbers they cover.
use Rattle.std.specs.Prelude.{◌&&◌, Bool, false, nat_eq, nat_le, Option, Some, None}
use Rattle.std.specs.List.{list_any}
use Rattle.ibm_disks.specs.Disks.{rate_of}
use Rattle.ibm_disks.specs.GapPlans.{track_bytes}
use Rattle.ibm_disks.specs.declared.rate.Rate.{Rate}
use Rattle.ibm_disks.specs.declared.rate.Rate.TheVariants.{Double, High, SingleAt360}
use Rattle.ibm_disks.specs.declared.word.DiskNumbers.{DiskNumbers}
use Rattle.sector_images.specs.Formats.{formats, row, zone}
use Rattle.sector_images.specs.declared.format.Format.{Format}
use Rattle.sector_images.specs.declared.format.Format.TheVariants.{Ibm3740, Ibm360, Ibm720, Ibm1440}
use Rattle.sector_images.specs.declared.format.Format.TheVariants.{C1581, Numbered}
use Rattle.track_shelf.specs.Stepping.{reaches_all}
use Rattle.told_disks.specs.declared.heads.NamedHeads.{NamedHeads}
use Rattle.told_disks.specs.declared.heads.NamedHeads.TheVariants.{Changed, First, Own}
use Rattle.track_shelf.specs.declared.stepping.Stepping.{Stepping}

-- the rate of a format that has one of IBM's recordings, and headers that name the drive's heads:
-- those of the Commodore 1581 do not
abbrev pub rate_if_ibm : Format → Option Rate
rate_if_ibm Ibm3740 = Some SingleAt360
rate_if_ibm Ibm360 = Some Double
rate_if_ibm Ibm720 = Some Double
rate_if_ibm Ibm1440 = Some High
rate_if_ibm (Numbered disk) = Some (rate_of disk)
rate_if_ibm format = None

-- the numbers of a format that has this rate
abbrev pub numbers_at : Format → Rate → DiskNumbers
numbers_at format rate = record {
  rate = rate;
  cylinders = (row format).cylinders;
  heads = (row format).heads;
  sectors = (zone format 0).sectors;
  sector_bytes = (row format).sector_size;
  first_sector = (row format).first_sector;
}

-- numbers are those of another disk, which has as many cylinders or more; rates differ in the
-- bytes of a track
abbrev pub are_within : (numbers of : DiskNumbers) → Bool
are_within numbers of =
    nat_eq (track_bytes numbers.rate) (track_bytes of.rate) && nat_eq numbers.heads of.heads
    && (nat_eq numbers.sectors of.sectors && nat_eq numbers.sector_bytes of.sector_bytes)
    && nat_eq numbers.first_sector of.first_sector && nat_le numbers.cylinders of.cylinders

abbrev pub covers_at : Option Rate → Format → DiskNumbers → Bool
covers_at None format numbers = false
covers_at (Some rate) format numbers = are_within numbers (numbers_at format rate)

-- a format covers numbers by the steps of a drive that reaches all of its tracks
abbrev pub covers : Stepping → DiskNumbers → Format → Bool
covers stepping numbers format =
    reaches_all stepping format && covers_at (rate_if_ibm format) format numbers

-- so does the Commodore 1581's disk, whose headers name on each head the other one
abbrev pub is_1581 : Stepping → DiskNumbers → Bool
is_1581 stepping numbers =
    reaches_all stepping C1581 && are_within numbers (numbers_at C1581 Double)

-- one of those that have names does, whose headers name these heads
abbrev pub is_covered : NamedHeads → Stepping → DiskNumbers → Bool
is_covered Own stepping numbers = list_any (covers stepping numbers) formats
is_covered First stepping numbers = false
is_covered Changed stepping numbers = is_1581 stepping numbers
