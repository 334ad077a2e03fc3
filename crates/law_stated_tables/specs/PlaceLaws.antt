-- The sectors of each track begin at these places of its ring.
use Rattle.std.specs.Prelude.{◌≡◌, ◌<◌, ◌≤◌, ℕ, ◌+◌, ◌*◌, Bool, Contains}
use Rattle.flux_base.specs.declared.track.TrackId.{TrackId}
use Rattle.disk_recordings.specs.Members.{place_in_ring}
use Rattle.ibm_disks.specs.Disks.{rate_of, track_of_disk}
use Rattle.ibm_disks.specs.Numbers.{size_of}
use Rattle.ibm_disks.specs.GapPlans.{density_of}
use Rattle.ibm_disks.specs.declared.disk.IbmDisk.{IbmDisk}
use Rattle.sector_images.specs.Formats.{IsWordOfFormat, row, zone}
use Rattle.sector_images.specs.declared.format.Format.{Format}
use Rattle.sector_images.specs.declared.format.Format.TheVariants.{Numbered}
use Rattle.law_stated_tables.specs.Places.{StatedPlaces, bytes_around, bytes_before, stated_places}
use Rattle.law_stated_tables.specs.Words.{recording}

-- those of a format that has a name and no numbers, from its first sector on
abbrev pub HasPlaces : StatedPlaces → Format → Type 0
HasPlaces stated format =
    (track : TrackId) (sector : ℕ) → stated.first ≤ track.cylinder → track.cylinder < stated.end
    → sector < (zone format track.cylinder).sectors
    → place_in_ring format track ((row format).first_sector + sector)
    ≡ stated.begin + stated.pitch * sector

abbrev pub PlacesAreStated : Type 0
PlacesAreStated = (stated : StatedPlaces) → Contains stated_places stated
    → (format : Format) × IsWordOfFormat stated.word format × HasPlaces stated format

-- and those of all disks by their numbers, in bytes of 16 cells
abbrev pub NumberedPlacesAreStated : Type 0
NumberedPlacesAreStated = (disk : IbmDisk) (is_mfm : Bool)
    → density_of (rate_of disk) ≡ recording is_mfm → (track : TrackId) (sector : ℕ)
    → place_in_ring (Numbered disk) track ((track_of_disk disk).first_sector + sector)
    ≡ 16 * (bytes_before is_mfm (track_of_disk disk).lead_in
    + (bytes_around is_mfm (track_of_disk disk).lead_in + size_of (track_of_disk disk).size
    + (track_of_disk disk).sector_gap)
    * sector)
