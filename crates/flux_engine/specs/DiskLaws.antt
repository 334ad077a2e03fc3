-- Where the parts, the sectors and the lines of a disk stand in its image and in its report.
use Rattle.std.specs.Prelude.{◌≡◌, ◌==◌, ℕ, ◌+◌, ◌-◌, ◌++◌, Bool, List, [], ◌∷◌, length, take, drop}
use Rattle.std.specs.Prelude.{slice_get, sum_by, Option, None, Some}
use Rattle.std.specs.List.{slice_split}
use Rattle.flux_base.specs.declared.track.TrackId.{TrackId}
use Rattle.kryo_stream.specs.Stream.{times, indexes}
use Rattle.sector_images.specs.Formats.{row, zone}
use Rattle.sector_images.specs.Places.{bytes_of, place_of, sector_place, tracks}
use Rattle.sector_images.specs.declared.format.Format.{Format}
use Rattle.flux_engine.specs.Recordings.{track_at, cells_of}
use Rattle.flux_engine.specs.Streams.{stream_at}

-- A track's part of the image has the track's bytes in number, and stands in the
-- disk's image at the track's place.
pub record StandsInImage (format : Format) (track : TrackId) (part image : List ℕ) : Type 0 where
  pub size : length part ≡ bytes_of format track
  pub there : take (bytes_of format track) (drop (place_of format track) image) ≡ part

-- the recovered cells of stream number n of an input
abbrev pub cells_at : Format → List ℕ → ℕ → List Bool
cells_at format x n =
    cells_of format (track_at format n) (times (stream_at x n)) (indexes (stream_at x n))

-- the lines of a text, without their line ends, and what stands after the last line end
abbrev pub lines_in : List ℕ → List (List ℕ)
lines_in text = slice_split (λ byte. byte == 10) text

-- The text has this line, with its line end, as its line of this number, from 0.
pub record HasLine (text line : List ℕ) (number : ℕ) : Type 0 where
  pub before : List ℕ
  pub after : List ℕ
  pub is : text ≡ before ++ (line ++ after)
  pub front : List ℕ
  pub ends : line ≡ front ++ 10 ∷ []
  pub there : slice_get (lines_in text) number ≡ Some front

-- the sectors of the tracks before one
abbrev pub sectors_before : Format → ℕ → ℕ
sectors_before format n =
    sum_by (λ track. (zone format track.cylinder).sectors) (take n (tracks format))

-- the lines before that of a sector of track number n: those of all sectors of the tracks before
-- it, and of the sectors of smaller numbers
abbrev pub line_number : Format → ℕ → ℕ → ℕ
line_number format n sector = sectors_before format n + (sector - (row format).first_sector)

-- the total line, where the disk was decoded to its end
abbrev pub total_lines : {S : Type 0} → Option S → ℕ
total_lines None = 1
total_lines (Some stop) = 0

-- the bytes at a sector's place in a disk's image
abbrev pub bytes_at : Format → List ℕ → TrackId → ℕ → List ℕ
bytes_at format image track sector =
    take (row format).sector_size (drop (sector_place format track sector) image)
