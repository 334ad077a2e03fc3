-- The tables that the program goes by have the numbers of the second one.
use Rattle.std.specs.Prelude.{◌≡◌, ◌⊎◌, ◌<◌, ◌≤◌, ℕ, ◌+◌, ◌-◌, ◌*◌, Bool, true, false, ◌&&◌, ◌||◌}
use Rattle.std.specs.Prelude.{Contains, List, nat_eq, nat_lt, sum_by}
use Rattle.disk_zones.specs.declared.zones.Zone.{Zone}
use Rattle.flux_base.specs.declared.track.TrackId.{TrackId}
use Rattle.ibm_disks.specs.Disks.{rate_of, track_of_disk}
use Rattle.ibm_disks.specs.Numbers.{size_of}
use Rattle.ibm_disks.specs.GapPlans.{density_of}
use Rattle.ibm_disks.specs.declared.disk.IbmDisk.{IbmDisk}
use Rattle.sector_images.specs.Formats.{IsWordOfFormat, row, slot, track_order, zone}
use Rattle.sector_images.specs.Places.{comes_before}
use Rattle.sector_images.specs.declared.format.Format.{Format}
use Rattle.sector_images.specs.declared.format.Format.TheVariants.{Numbered}
use Rattle.law_stated_tables.specs.Speeds.{AreMacintoshCells, IsCell, IsTurn, Speed, TakesATurn}
use Rattle.law_stated_tables.specs.Table.{StatedFormat, StatedZone, stands_at, stated_formats}
use Rattle.law_stated_tables.specs.Words.{IsGap, StatedGaps, StatedNumbers, WritesNumbers}
use Rattle.law_stated_tables.specs.Words.{bytes_of_turn, recording as recording_of, stated_by}
use Rattle.law_stated_tables.specs.Words.{stated_gaps}

-- The nominal cell is the time of one. Where the drive does not turn as fast for all cylinders,
-- captures are made in one that does: there the ring passes 300 times a minute, five times a
-- second, and the nominal cell is the time of one of its cells. In the disk's own drive they
-- are as long on all cylinders.
abbrev pub IsNominal : (is_even : Bool) → Speed → (ring nominal : ℕ) → Type 0
IsNominal true speed ring nominal = IsCell speed.cells speed.seconds nominal
IsNominal false speed ring nominal =
    IsCell (5 * ring) 1 nominal × AreMacintoshCells ring speed.turns

-- a zone has these numbers
pub record IsStatedZone (stated : StatedZone) (zone : Zone) : Type 0 where
  pub sectors : zone.sectors ≡ stated.sectors
  pub ring : IsTurn stated.speed stated.behind stated.part zone.ring_cells
  pub nominal : IsNominal stated.is_even stated.speed zone.ring_cells zone.nominal

-- one track comes before another in the image
abbrev pub is_before : (by_head : Bool) → TrackId → TrackId → Bool
is_before true a b = nat_lt a.head b.head || (nat_eq a.head b.head && nat_lt a.cylinder b.cylinder)
is_before false a b =
    nat_lt a.cylinder b.cylinder || (nat_eq a.cylinder b.cylinder && nat_lt a.head b.head)

-- a format has these numbers; its sectors' bytes are the image, and each of its cylinders has
-- those of the zone that it lies in
pub record IsStated (stated : StatedFormat) (format : Format) : Type 0 where
  pub cylinders : (row format).cylinders ≡ stated.cylinders
  pub heads : (row format).heads ≡ stated.heads
  pub first_sector : (row format).first_sector ≡ stated.first_sector
  pub bytes : (row format).sector_size ≡ stated.bytes
  pub image : (row format).image_size ≡ stated.image
  pub sectors_are_image : stated.heads * stated.bytes
      * sum_by (λ z. (z.end - z.first) * z.sectors) stated.zones
      ≡ stated.image
  pub zones : (cylinder : ℕ) → cylinder < stated.cylinders
      → (z : StatedZone) × Contains stated.zones z × (z.first ≤ cylinder) × (cylinder < z.end)
      × IsStatedZone z (zone format cylinder)
  pub tracks : (a b : TrackId)
      → comes_before (track_order format) a b ≡ is_before stated.by_head a b
  pub slots : (cylinder sector : ℕ) → cylinder < stated.cylinders
      → sector < (zone format cylinder).sectors
      → slot format (stated.first_sector + sector) ≡ stands_at stated.step sector

-- each word of the second table names a format, which has the numbers that stand there
abbrev pub NamesAreStated : Type 0
NamesAreStated = (stated : StatedFormat) → Contains stated_formats stated
    → (format : Format) × IsWordOfFormat stated.word format × IsStated stated format

-- a disk by its numbers has the recording of its rate, and gaps as the numbers make them
pub record HasStatedTrack (n : StatedNumbers) (disk : IbmDisk) : Type 0 where
  pub recording : density_of (rate_of disk) ≡ recording_of n.rate.is_mfm
  pub gap : IsGap n.rate.is_mfm n.sectors n.bytes (bytes_of_turn n.rate)
      (track_of_disk disk).lead_in (track_of_disk disk).sector_gap

-- and each word that writes numbers of which there is a disk names a format that has these numbers
abbrev pub NumbersAreStated : Type 0
NumbersAreStated = (word : List ℕ) (n : StatedNumbers) → WritesNumbers word n
    → (disk : IbmDisk) × IsWordOfFormat word (Numbered disk)
    × IsStated (stated_by word n) (Numbered disk) × HasStatedTrack n disk

-- The gaps of a disk that has a name and numbers: MFM or FM, with an index mark or not, the bytes
-- of the gap behind each sector, and those to the end of the track, behind so many before the first
-- sector and around those of each.
pub record HasStatedGaps (stated : StatedGaps) (disk : IbmDisk) : Type 0 where
  pub recording : density_of (rate_of disk) ≡ recording_of stated.is_mfm
  pub lead_in : (track_of_disk disk).lead_in ≡ stated.lead_in
  pub gap : (track_of_disk disk).sector_gap ≡ stated.gap
  pub end : stated.before
      + (track_of_disk disk).sectors
      * (stated.around + size_of (track_of_disk disk).size + stated.gap)
      + stated.end
      ≡ (track_of_disk disk).bytes

abbrev pub GapsAreStated : Type 0
GapsAreStated = (stated : StatedGaps) → Contains stated_gaps stated
    → (disk : IbmDisk) × IsWordOfFormat stated.word (Numbered disk) × HasStatedGaps stated disk

-- The word stands in the second table, and the format has the numbers that stand there.
abbrev pub IsStatedName : List ℕ → Format → Type 0
IsStatedName word format = (stated : StatedFormat) × Contains stated_formats stated
    × (stated.word ≡ word) × IsStated stated format

-- The word writes numbers of which there is a disk, and the format is a disk that has them.
abbrev pub IsStatedWord : List ℕ → Format → Type 0
IsStatedWord word format =
    (n : StatedNumbers) × WritesNumbers word n × (disk : IbmDisk) × (format ≡ Numbered disk)
    × IsStated (stated_by word n) format × HasStatedTrack n disk

-- There are no other words: whatever word names a format is one of these, and the
-- format has the numbers above.
abbrev pub NoOtherWords : Type 0
NoOtherWords = (word : List ℕ) (format : Format) → IsWordOfFormat word format
    → IsStatedName word format ⊎ IsStatedWord word format

-- of each format, named or by its numbers, the ring of each track takes a turn of a drive
-- of 300 turns a minute or of 360
abbrev pub TracksTakeATurn : Type 0
TracksTakeATurn = (format : Format) (cylinder : ℕ)
    → (turns : ℕ) × ((turns ≡ 300) ⊎ (turns ≡ 360))
    × TakesATurn turns (zone format cylinder).nominal (zone format cylinder).ring_cells
