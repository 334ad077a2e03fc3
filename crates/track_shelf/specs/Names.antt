-- How the files of a dump are named, and what is said of one that is missing.
use Rattle.std.specs.Prelude.{◌≡◌, ◌<◌, ◌-◌, ◌&&◌, ◌||◌, ◌==◌, if◌then◌else◌, ℕ, Bool, false, true}
use Rattle.std.specs.Prelude.{List, ◌∷◌, ◌++◌, length, take, drop, nat_le, nat_lt, not, codes}
use Rattle.std.specs.Prelude.{decimal}
use Rattle.std.specs.Str.{bytes_eq, str_eq_ignore_ascii_case}
use Rattle.flux_base.specs.declared.track.TrackId.{TrackId}
use Rattle.sector_report.specs.Lines.{two_digits}

-- how the name of a track's file ends: the cylinder in two digits, and the head
unfoldable pub ending_text : TrackId → List ℕ
ending_text track = two_digits track.cylinder ++ codes "." ++ decimal track.head ++ codes ".raw"

unfoldable pub file_name_text : TrackId → List ℕ
file_name_text track = codes "track" ++ ending_text track

-- the path of a track's file in a folder
unfoldable pub folder_path : (folder : List ℕ) → TrackId → List ℕ
folder_path folder track = folder ++ codes "/" ++ file_name_text track

abbrev pub is_digit : ℕ → Bool
is_digit byte = nat_le 48 byte && nat_le byte 57

-- two digits, a point, 0 or 1, and `.raw`
unfoldable pub is_ending : List ℕ → Bool
is_ending (tens ∷ ones ∷ point ∷ head ∷ rest) =
    is_digit tens
    && (is_digit ones
    && (point == 46 && ((head == 48 || head == 49) && bytes_eq rest (codes ".raw"))))
is_ending few = false

-- how many bytes the ending of a file's name has
abbrev pub ENDING_SIZE : ℕ
ENDING_SIZE = 8

-- a dump is named by one of its files: its name ends like one's, and something stands before
unfoldable pub names_file : (dump : List ℕ) → Bool
names_file dump =
    nat_lt ENDING_SIZE (length dump) && is_ending (drop (length dump - ENDING_SIZE) dump)

-- a dump is an SCP file: its name ends with `.scp`, in letters of any case, and something stands
-- before
unfoldable pub is_scp : (dump : List ℕ) → Bool
is_scp dump =
    nat_lt 4 (length dump)
    && str_eq_ignore_ascii_case (drop (length dump - 4) dump) (codes ".scp")

-- any other dump is a folder
abbrev pub is_folder : (dump : List ℕ) → Bool
is_folder dump = not (names_file dump || is_scp dump)

-- The path of the file of a track in a dump. The files of a dump that is named by one of them begin
-- with what stands before the ending of its name; an SCP file has all tracks; any other dump is a
-- folder.
unfoldable pub path_text : (dump : List ℕ) → TrackId → List ℕ
path_text dump track =
    if names_file dump then take (length dump - ENDING_SIZE) dump ++ ending_text track
    else if is_scp dump then dump
    else folder_path dump track

-- a track's numbers have two digits and one, 0 or 1
pub record IsNamed (track : TrackId) : Type 0 where
  pub cylinder : track.cylinder < 100
  pub head : track.head < 2

-- a dump is named as well by any of its files
abbrev pub FilesNameDumps : Type 0
FilesNameDumps = (dump : List ℕ) (one track : TrackId) → IsNamed one
    → path_text (path_text dump one) track ≡ path_text dump track

-- an SCP file has one path, for all tracks
abbrev pub ScpDumpsAreFiles : Type 0
ScpDumpsAreFiles = (dump : List ℕ) (track : TrackId) → is_scp dump ≡ true
    → path_text dump track ≡ dump

-- and what names it so is one of its files
abbrev pub NamesAreFiles : Type 0
NamesAreFiles = (dump : List ℕ) → names_file dump ≡ true
    → (track : TrackId) × IsNamed track × (path_text dump track ≡ dump)

-- a path in a folder tells the folder and the track
abbrev pub FolderPathsTell : Type 0
FolderPathsTell =
    (folder folder' : List ℕ) (track track' : TrackId) → IsNamed track → IsNamed track'
    → folder_path folder track ≡ folder_path folder' track' → (folder ≡ folder') × (track ≡ track')

unfoldable pub missing_text : ℕ → TrackId → List ℕ
missing_text number track = codes "refused track " ++ decimal number ++ codes " missing "
    ++ file_name_text track ++ codes "\n"
