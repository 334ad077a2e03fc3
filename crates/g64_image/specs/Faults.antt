-- The first fault of a file, in the order in which they are looked at.
use Rattle.std.specs.Prelude.{◌≤◌, ℕ, ◌+◌, ◌==◌, ◌||◌, not, List, length, filter_map, nat_lt}
use Rattle.std.specs.Prelude.{slice_get, slice_index, take, if◌then◌else◌, Option, Some, None}
use Rattle.std.specs.List.{range_with_len}
use Rattle.std.specs.Str.{bytes_eq}
use Rattle.sector_images.specs.Places.{tracks}
use Rattle.sector_images.specs.declared.format.Format.{Format}
use Rattle.g64_image.specs.Layout.{HEADER_SIZE, MOST_HALF_TRACKS, SIGNATURE, half_tracks_of}
use Rattle.g64_image.specs.Layout.{length_at, offset_of, tables_end}
use Rattle.g64_image.specs.declared.fault.G64Fault.{G64Fault}
use Rattle.g64_image.specs.declared.fault.G64Fault.TheVariants.{TooLarge, ShortHeader, BadSignature}
use Rattle.g64_image.specs.declared.fault.G64Fault.TheVariants.{BadVersion, BadTracks, ShortTable}
use Rattle.g64_image.specs.declared.fault.G64Fault.TheVariants.{BadOffset, ShortTrack}

-- the most bytes of a file
abbrev pub MOST_BYTES : ℕ
MOST_BYTES = 4194304

-- a fault before the tracks are looked at
unfoldable pub table_fault : List ℕ → Option G64Fault
table_fault file =
    if nat_lt MOST_BYTES (length file) then Some TooLarge
    else if nat_lt (length file) HEADER_SIZE then Some (ShortHeader (length file))
    else if not (bytes_eq (take 8 file) SIGNATURE) then Some BadSignature
    else if not (slice_index file 8 == 0) then Some (BadVersion (slice_index file 8))
    else if half_tracks_of file == 0 || nat_lt MOST_HALF_TRACKS (half_tracks_of file)
    then Some (BadTracks (half_tracks_of file))
    else if nat_lt (length file) (tables_end (half_tracks_of file))
    then Some (ShortTable (length file))
    else None

-- a fault of a track whose length and bytes are to stand at an offset
abbrev pub fault_at : List ℕ → ℕ → ℕ → Option G64Fault
fault_at file track offset =
    if offset == 0 then None
    else if nat_lt (length file) (offset + 2) then Some (BadOffset (track + 1) offset)
    else if nat_lt (length file) (offset + 2 + length_at file offset)
    then Some (ShortTrack (track + 1) (length_at file offset))
    else None

unfoldable pub track_fault : List ℕ → ℕ → Option G64Fault
track_fault file track = fault_at file track (offset_of file track)

-- the first of the faults of the format's tracks, in the order of the tracks
unfoldable pub tracks_fault : Format → List ℕ → Option G64Fault
tracks_fault format file =
    slice_get (filter_map (track_fault file) (range_with_len 0 (length (tracks format)))) 0

-- the first of two that is there
abbrev pub or_else : Option G64Fault → Option G64Fault → Option G64Fault
or_else (Some fault) later = Some fault
or_else None later = later

unfoldable pub first_fault : Format → List ℕ → Option G64Fault
first_fault format file = or_else (table_fault file) (tracks_fault format file)

-- the file has both tables whole
pub record HasTables (file : List ℕ) : Type 0 where
  pub few : half_tracks_of file ≤ MOST_HALF_TRACKS
  pub whole : tables_end (half_tracks_of file) ≤ length file
