-- Where tracks and sectors lie in an image.
use Rattle.std.specs.Prelude.{◌≡◌, ℕ, zero, suc, ◌+◌, ◌*◌, ◌<◌, ◌≤◌, Bool, ◌||◌, ◌&&◌, nat_eq}
use Rattle.std.specs.Prelude.{nat_lt, List, length, filter, find, map, sum_by, slice_get, take}
use Rattle.std.specs.Prelude.{unwrap_or, Some}
use Rattle.std.specs.List.{flat_map, range_with_len}
use Rattle.flux_base.specs.Bounds.{IMAGE_LIMIT, LONGEST_CELL, LONGEST_RING, MOST_SECTOR_BYTES}
use Rattle.flux_base.specs.Bounds.{MOST_SECTORS, MOST_TRACK_BYTES, MOST_TRACKS, SHORTEST_CELL}
use Rattle.flux_base.specs.Bounds.{SHORTEST_RING}
use Rattle.flux_base.specs.declared.track.TrackId.{TrackId}
use Rattle.sector_images.specs.declared.format.Format.{Format}
use Rattle.sector_images.specs.declared.format.TrackOrder.{TrackOrder}
use Rattle.sector_images.specs.declared.format.TrackOrder.TheVariants.{ByCylinder, ByHead}
use Rattle.sector_images.specs.Formats.{row, slot, track_order, zone}

-- the track is one of the format's
abbrev pub IsTrack : Format → TrackId → Type 0
IsTrack format track = (track.cylinder < (row format).cylinders) × (track.head < (row format).heads)

-- the sector is one of the track's
abbrev pub IsSector : Format → TrackId → ℕ → Type 0
IsSector format track sector =
    ((row format).first_sector ≤ sector)
    × (sector < (row format).first_sector + (zone format track.cylinder).sectors)

-- the tracks of so many cylinders and heads: cylinder by cylinder, and in each
-- head by head, or the other way
abbrev pub tracks_by : TrackOrder → (cylinders heads : ℕ) → List TrackId
tracks_by ByCylinder cylinders heads =
    flat_map
    (λ cylinder.
    map (λ head. record { cylinder = cylinder; head = head }) (range_with_len 0 heads))
    (range_with_len 0 cylinders)
tracks_by ByHead cylinders heads =
    flat_map
    (λ head.
    map (λ cylinder. record { cylinder = cylinder; head = head }) (range_with_len 0 cylinders))
    (range_with_len 0 heads)

-- all tracks of the format, in its order
abbrev pub tracks : Format → List TrackId
tracks format = tracks_by (track_order format) (row format).cylinders (row format).heads

-- whether a track comes before another in an order
abbrev pub comes_before : TrackOrder → TrackId → TrackId → Bool
comes_before ByCylinder a b =
    nat_lt a.cylinder b.cylinder || (nat_eq a.cylinder b.cylinder && nat_lt a.head b.head)
comes_before ByHead a b =
    nat_lt a.head b.head || (nat_eq a.head b.head && nat_lt a.cylinder b.cylinder)

-- the bytes of a track
abbrev pub bytes_of : Format → TrackId → ℕ
bytes_of format track = (zone format track.cylinder).sectors * (row format).sector_size

-- the sectors of one head on so many first cylinders
unfoldable pub sectors_before : Format → ℕ → ℕ
sectors_before format zero = 0
sectors_before format (suc cylinder) =
    sectors_before format cylinder + (zone format cylinder).sectors

-- the sectors of all tracks before one
abbrev pub sectors_before_track : TrackOrder → Format → TrackId → ℕ
sectors_before_track ByCylinder format track =
    sectors_before format track.cylinder * (row format).heads
    + track.head * (zone format track.cylinder).sectors
sectors_before_track ByHead format track =
    track.head * sectors_before format (row format).cylinders + sectors_before format track.cylinder

-- a track's first byte in the image: the bytes of all tracks before it
unfoldable pub place_of : Format → TrackId → ℕ
place_of format track = sum_by (bytes_of format)
    (filter (λ t. comes_before (track_order format) t track) (tracks format))

-- a sector's first byte in the image: the track's first, and after it the
-- sectors that stand before this one
unfoldable pub sector_place : Format → TrackId → ℕ → ℕ
sector_place format track sector =
    place_of format track + (row format).sector_size * slot format sector

-- the sector that stands at this number, from 0, among those of the track in the image
unfoldable pub sector_in : Format → TrackId → ℕ → ℕ
sector_in format track number =
    unwrap_or
    (find (λ sector. nat_eq (slot format sector) number)
    (range_with_len (row format).first_sector (zone format track.cylinder).sectors)) 0

-- the sectors of a track fill its part of the image: each stands at one number there
abbrev pub SectorsFillTracks : Type 0
SectorsFillTracks = (format : Format) (track : TrackId) (sector : ℕ) → IsSector format track sector
    → (slot format sector < (zone format track.cylinder).sectors)
    × (sector_in format track (slot format sector) ≡ sector)

-- and no number there is left over: the sector that stands at it is one of the track's
abbrev pub NumbersHoldSectors : Type 0
NumbersHoldSectors =
    (format : Format) (track : TrackId) (number : ℕ) → number < (zone format track.cylinder).sectors
    → IsSector format track (sector_in format track number)
    × (slot format (sector_in format track number) ≡ number)

-- each number of a track is that of one of the format's tracks
abbrev pub NumbersNameTracks : Type 0
NumbersNameTracks = (format : Format) (number : ℕ) → number < length (tracks format)
    → (track : TrackId) × (slice_get (tracks format) number ≡ Some track) × IsTrack format track

-- the tracks stand in the image by their numbers, one after another: each begins after
-- all the bytes of those before it
abbrev pub TracksJoin : Type 0
TracksJoin =
    (format : Format) (number : ℕ) (track : TrackId) → slice_get (tracks format) number ≡ Some track
    → place_of format track ≡ sum_by (bytes_of format) (take number (tracks format))

-- the bytes of all tracks are those of the image
abbrev pub TracksFillImages : Type 0
TracksFillImages =
    (format : Format) → sum_by (bytes_of format) (tracks format) ≡ (row format).image_size

-- each sector lies whole in the image
abbrev pub SectorsLieInImages : Type 0
SectorsLieInImages = (format : Format) (track : TrackId) (sector : ℕ) → IsTrack format track
    → IsSector format track sector
    → sector_place format track sector + (row format).sector_size ≤ (row format).image_size

-- What all tracks of all formats keep to: cylinders are numbered by two digits, heads by 0 and 1,
-- sectors by 8 bits, a track has a sector, and not too many, which have not too many bytes, each
-- and all together, no track has more sectors than its format's first, and cells and rings are
-- neither very short nor very long.
pub record KeepsBounds (format : Format) (track : TrackId) : Type 0 where
  pub cylinder : track.cylinder < 100
  pub head : track.head < 2
  pub some : 1 ≤ (zone format track.cylinder).sectors
  pub sectors : (zone format track.cylinder).sectors ≤ MOST_SECTORS
  pub numbers : (row format).first_sector + (zone format track.cylinder).sectors ≤ 256
  pub size : (row format).sector_size ≤ MOST_SECTOR_BYTES
  pub bytes : bytes_of format track ≤ MOST_TRACK_BYTES
  pub most : (first : TrackId) → slice_get (tracks format) 0 ≡ Some first
      → (zone format track.cylinder).sectors ≤ (zone format first.cylinder).sectors
  pub shortest_cell : SHORTEST_CELL ≤ (zone format track.cylinder).nominal
  pub longest_cell : (zone format track.cylinder).nominal ≤ LONGEST_CELL
  pub shortest_ring : SHORTEST_RING ≤ (zone format track.cylinder).ring_cells
  pub longest_ring : (zone format track.cylinder).ring_cells ≤ LONGEST_RING

abbrev pub TracksKeepBounds : Type 0
TracksKeepBounds =
    (format : Format) (track : TrackId) → IsTrack format track → KeepsBounds format track

-- each format has a track
abbrev pub FormatsHaveTracks : Type 0
FormatsHaveTracks = (format : Format) → 0 < length (tracks format)

-- none has more than a thousand
abbrev pub TracksAreFew : Type 0
TracksAreFew = (format : Format) → length (tracks format) ≤ MOST_TRACKS

-- no format's image has 4 MiB
abbrev pub ImagesAreSmall : Type 0
ImagesAreSmall = (format : Format) → (row format).image_size < IMAGE_LIMIT
