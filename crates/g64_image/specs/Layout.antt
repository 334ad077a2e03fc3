-- What a G64 file is: a disk of the Commodore 1541 by the cells of its tracks, as emulators
-- keep it (GCR-1541, version 0).
use Rattle.std.specs.Prelude.{◌≡◌, ◌⊎◌, ℕ, ◌+◌, ◌*◌, ◌/◌, ◌%◌, ◌-◌, ◌==◌, ◌&&◌, Bool, List, [], ◌∷◌}
use Rattle.std.specs.Prelude.{◌++◌, codes, drop, flat_map, length, map, nat_lt, replicate}
use Rattle.std.specs.Prelude.{slice_index, take, if◌then◌else◌}
use Rattle.std.specs.List.{range_with_len}
use Rattle.byteorder.specs.Endian.{little_bytes, little_number}
use Rattle.cell_bits.specs.Word.{word, word_cells}
use Rattle.flux_engine.specs.Rings.{ring_of}
use Rattle.sector_images.specs.Places.{tracks}
use Rattle.sector_images.specs.declared.format.Format.{Format}
use Rattle.sector_images.specs.declared.format.Format.TheVariants.{C1541, C1541Forty}

-- the formats of disks of which there are such files
abbrev pub IsCommodore : Format → Type 0
IsCommodore format = (format ≡ C1541) ⊎ (format ≡ C1541Forty)

-- the bytes with which each file begins
abbrev pub SIGNATURE : List ℕ
SIGNATURE = codes "GCR-1541"

-- the most half tracks of a file, and the half track of a track: both from 0
abbrev pub MOST_HALF_TRACKS : ℕ
MOST_HALF_TRACKS = 84

abbrev pub half_track : ℕ → ℕ
half_track track = 2 * track

-- After the signature, the version, the number of half tracks and the greatest size of a track
-- stand two tables with an entry of four bytes for each half track: offsets, and then speeds.
abbrev pub HEADER_SIZE : ℕ
HEADER_SIZE = 12

abbrev pub tables_end : ℕ → ℕ
tables_end half_tracks = HEADER_SIZE + 8 * half_tracks

-- the bytes whose bits are these cells, high bit first
unfoldable pub bytes_of_cells : List Bool → List ℕ
bytes_of_cells cells = map (λ i. word cells (8 * i) 8) (range_with_len 0 (length cells / 8))

-- the cells that are the bits of these bytes, high bit first
unfoldable pub cells_of_bytes : List ℕ → List Bool
cells_of_bytes bytes = flat_map (word_cells 8) bytes

-- the size in which each track is written, with its cells at the front and FF after them
abbrev pub TRACK_SIZE : ℕ
TRACK_SIZE = 7928

-- the place of a written track: its length of two bytes, and after it the track's bytes
abbrev pub written_place : ℕ → ℕ
written_place track = tables_end MOST_HALF_TRACKS + (2 + TRACK_SIZE) * track

-- how fast the disk turns under the head, counted from the slowest cells: tracks 1 to 17, 18
-- to 24, 25 to 30, and from 31 on
abbrev pub speed_of : ℕ → ℕ
speed_of track =
    if nat_lt (track + 1) 18 then 3
    else if nat_lt (track + 1) 25 then 2 else if nat_lt (track + 1) 31 then 1 else 0

-- the half track is one of the format's tracks
abbrev pub is_track : Format → ℕ → Bool
is_track format half = half % 2 == 0 && nat_lt (half / 2) (length (tracks format))

-- what a written file has in its tables for a half track
abbrev pub offset_entry : Format → ℕ → ℕ
offset_entry format half = if is_track format half then written_place (half / 2) else 0

abbrev pub speed_entry : Format → ℕ → ℕ
speed_entry format half = if is_track format half then speed_of (half / 2) else 0

abbrev pub table : (ℕ → ℕ) → List ℕ
table entry = flat_map (λ half. little_bytes 4 (entry half)) (range_with_len 0 MOST_HALF_TRACKS)

abbrev pub header : List ℕ
header = SIGNATURE ++ (0 ∷ MOST_HALF_TRACKS ∷ little_bytes 2 TRACK_SIZE)

-- what stands before the tracks of a written file
unfoldable pub front : Format → List ℕ
front format = header ++ (table (offset_entry format) ++ table (speed_entry format))

-- a ring of cells as a track of a written file
unfoldable pub track_record : List Bool → List ℕ
track_record ring =
    little_bytes 2 (length ring / 8)
    ++ (bytes_of_cells ring ++ replicate (TRACK_SIZE - length ring / 8) 0xFF)

abbrev pub image_record : Format → List ℕ → ℕ → List ℕ
image_record format image track = track_record (ring_of format image track)

abbrev pub records : Format → List ℕ → List ℕ
records format image =
    flat_map (image_record format image) (range_with_len 0 (length (tracks format)))

-- the file that is written of an image: the cells of its tracks' rings
unfoldable pub g64_file : Format → List ℕ → List ℕ
g64_file format image = front format ++ records format image

-- how many half tracks a file has entries for
abbrev pub half_tracks_of : List ℕ → ℕ
half_tracks_of file = slice_index file 9

-- where a file has a track's length and bytes, and 0 where it has no such track
abbrev pub offset_of : List ℕ → ℕ → ℕ
offset_of file track =
    if nat_lt (half_track track) (half_tracks_of file)
    then little_number 4 (drop (HEADER_SIZE + 4 * half_track track) file) else 0

-- how many bytes it has there
abbrev pub length_at : List ℕ → ℕ → ℕ
length_at file offset = little_number 2 (drop offset file)

-- the cells that a file has of a track: its bytes, which follow the length
abbrev pub cells_at : List ℕ → ℕ → List Bool
cells_at file offset =
    if offset == 0 then []
    else cells_of_bytes (take (length_at file offset) (drop (offset + 2) file))

unfoldable pub track_cells : List ℕ → ℕ → List Bool
track_cells file track = cells_at file (offset_of file track)
