-- The files that are made of an SCP file, and the lines that tell of its tracks.
use Rattle.std.specs.Prelude.{ℕ, List, [], filter_map, flat_map, option_map, Option, Some, None}
use Rattle.std.specs.List.{range_with_len}
use Rattle.track_shelf.specs.Files.{File}
use Rattle.track_shelf.specs.Names.{folder_path}
use Rattle.scp_files.specs.Files.{resolution_of, revolutions_of, track_offset}
use Rattle.std.specs.Prelude.{drop}
use Rattle.scp_unpack.specs.Lines.{told_text}
use Rattle.scp_unpack.specs.Tracks.{TrackCame, came_of, track_of}
use Rattle.scp_files.specs.declared.fault.TrackTold.{TrackTold}

abbrev pub file_with : (folder : List ℕ) → (number : ℕ) → (bytes : List ℕ) → File
file_with folder number bytes =
    record { path = folder_path folder (track_of number); bytes = bytes }

abbrev pub file_of : (folder : List ℕ) → TrackCame → Option File
file_of folder came = option_map (file_with folder came.number) came.stream

abbrev pub files_of : (folder : List ℕ) → List TrackCame → List File
files_of folder came = filter_map (file_of folder) came

abbrev pub line_by : (number : ℕ) → Option TrackTold → List ℕ
line_by number None = []
line_by number (Some told) = told_text (track_of number) told

abbrev pub lines_of : List TrackCame → List ℕ
lines_of came = flat_map (λ (it : TrackCame). line_by it.number it.told) came

-- what the track of this number of a file comes to, where the file has it
abbrev pub came_at : (file : List ℕ) → (number : ℕ) → Option TrackCame
came_at file number =
    option_map
    (λ offset. came_of (resolution_of file)
    (record { number = number; offset = offset; revolutions = revolutions_of file })
    (drop offset file))
    (track_offset file number)

-- what the first tracks come to, up to this number
abbrev pub first_came : (file : List ℕ) → (count : ℕ) → List TrackCame
first_came file count = filter_map (came_at file) (range_with_len 0 count)
