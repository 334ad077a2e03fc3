-- What is told of a file that is not made: the track's number, and the file's name.
use Rattle.std.specs.Prelude.{ℕ, List, ◌++◌, codes, decimal}
use Rattle.flux_base.specs.declared.track.TrackId.{TrackId}
use Rattle.track_shelf.specs.Names.{file_name_text}

unfoldable pub file_text : (front : List ℕ) → (number : ℕ) → (between : List ℕ) → TrackId → List ℕ
file_text front number between track =
    front ++ (decimal number ++ (between ++ (file_name_text track ++ codes "\n")))

-- it is there already
abbrev pub exists_text : (number : ℕ) → TrackId → List ℕ
exists_text number track = file_text (codes "refused track ") number (codes " exists ") track

-- it is the last of those that have names, and the number that of the stream behind it
abbrev pub beyond_text : (number : ℕ) → TrackId → List ℕ
beyond_text number track = file_text (codes "refused track ") number (codes " beyond ") track

-- it was not made, or not all of it
abbrev pub failed_text : (number : ℕ) → TrackId → List ℕ
failed_text number track = file_text (codes "failed track ") number (codes " ") track
