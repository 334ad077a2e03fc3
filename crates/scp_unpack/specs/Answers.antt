-- What unpacking an SCP file may answer, and what that says of the file and of what is made.
use Rattle.std.specs.Prelude.{◌≡◌, ◌<◌, ◌⊎◌, ℕ, ◌+◌, List, [], ◌∷◌, ◌++◌, filter_map, find, length}
use Rattle.std.specs.Prelude.{Option, Some, None, Result, Ok, Err}
use Rattle.std.specs.Io.KnownBytes.{Appends}
use Rattle.std.specs.List.{range_with_len}
use Rattle.std.specs.Option.{is_some}
use Rattle.flux_base.specs.Outside.{AppendsPart}
use Rattle.file_maker.specs.Made.{Made}
use Rattle.file_maker.specs.Makes.{MakesIn, front_of}
use Rattle.track_shelf.specs.Files.{File, file_at}
use Rattle.track_shelf.specs.Files.{file_of as track_file}
use Rattle.scp_files.specs.Files.{TABLE_SIZE, file_fault}
use Rattle.scp_files.specs.declared.fault.ScpFault.{ScpFault}
use Rattle.scp_unpack.specs.Files.{file_with, files_of, first_came, lines_of}
use Rattle.scp_unpack.specs.Lines.{total_text}
use Rattle.scp_unpack.specs.Tracks.{TrackCame, track_of}
use Rattle.scp_unpack.specs.declared.fault.UnpackFault.{UnpackFault}
use Rattle.scp_unpack.specs.declared.fault.UnpackFault.TheVariants.{Exists, FileFault, FolderFault}
use Rattle.scp_unpack.specs.declared.fault.UnpackFault.TheVariants.{NotThere, NotesFault, ReadFault}
use Rattle.scp_unpack.specs.declared.fault.UnpackFault.TheVariants.{Refused}
use Rattle.scp_unpack.specs.declared.unpacking.Unpacked.{Unpacked}

-- which file is unpacked, of the files that lie on a shelf, where these are told; and where its
-- tracks are made files
pub record Asked : Type 0 where
  pub shelf : Option (List File)
  pub path : List ℕ
  pub folder : List ℕ

abbrev pub Answer : Type 0
Answer = Result Unpacked UnpackFault

-- the number of the first track whose file would be one that is there, if one would
abbrev pub first_there : List File → (folder : List ℕ) → Option ℕ
first_there files folder =
    find (λ n. is_some (track_file files folder (track_of n))) (range_with_len 0 TABLE_SIZE)

-- this is that number, where it is told what lies there
abbrev pub IsFirstThere : Option Made → (folder : List ℕ) → Option ℕ → Type 0
IsFirstThere made folder first =
    (told : Made) → made ≡ Some told → first_there told.files folder ≡ first

-- the file is not there
abbrev pub IsMissing : Asked → Type 0
IsMissing asked = (files : List File) → asked.shelf ≡ Some files → file_at files asked.path ≡ None

-- the file is there, and has this fault as an SCP file, or none
abbrev pub HasFault : Asked → Option ScpFault → Type 0
HasFault asked fault = (files : List File) → asked.shelf ≡ Some files
    → (file : File) × (file_at files asked.path ≡ Some file) × (file_fault file.bytes ≡ fault)

-- these are what the first tracks of the file come to, up to this number
abbrev pub AreFirst : Asked → (count : ℕ) → List TrackCame → Type 0
AreFirst asked count came = (files : List File) (file : File) → asked.shelf ≡ Some files
    → file_at files asked.path ≡ Some file → came ≡ first_came file.bytes count

-- how many files were made, and of how many tracks something is told
abbrev pub count_of : (folder : List ℕ) → List TrackCame → Unpacked
count_of folder came = record {
  files = length (files_of folder came);
  refused = length (filter_map (λ (it : TrackCame). it.told) came);
}

-- the lines of tracks, and of how many they are
abbrev pub all_lines : (folder : List ℕ) → List TrackCame → List ℕ
all_lines folder came =
    lines_of came ++ total_text (count_of folder came).files (count_of folder came).refused

-- nothing was made, and nothing told
abbrev pub IsUntouched : (made made' : Option Made) → (notes notes' : Option (List ℕ)) → Type 0
IsUntouched made made' notes notes' = (made' ≡ made) × (notes' ≡ notes)

-- the file can be unpacked there
abbrev pub CanUnpack : Asked → Option Made → Type 0
CanUnpack asked made = HasFault asked None × IsFirstThere made asked.folder None

-- Of the tracks before number n these files were made, and these lines were told.
pub record UnpacksTo (asked : Asked) (n : ℕ) (came : List TrackCame) (Makes : List File → Type 0)
    (notes notes' : Option (List ℕ)) : Type 0 where
  pub first : AreFirst asked n came
  pub made : Makes (files_of asked.folder came)
  pub told : Appends notes notes' (lines_of came)

-- nothing of a file was made, or a front of it that is shorter than it
abbrev pub IsFrontOf : File → List File → Type 0
IsFrontOf file files =
    (files ≡ []) ⊎ ((few : ℕ) × (few < length file.bytes) × (files ≡ front_of few file ∷ []))

-- The file of the next track, number n, was not made whole.
pub record CutAt (asked : Asked) (n : ℕ) (came : List TrackCame) (Makes : List File → Type 0)
    (notes notes' : Option (List ℕ)) : Type 0 where
  pub within : n < TABLE_SIZE
  pub it : TrackCame
  pub first : AreFirst asked (n + 1) (came ++ it ∷ [])
  pub bytes : List ℕ
  pub stream : it.stream ≡ Some bytes
  pub front : List File
  pub cut : IsFrontOf (file_with asked.folder n bytes) front
  pub made : Makes (files_of asked.folder came ++ front)
  pub told : Appends notes notes' (lines_of came)

-- The notes failed inside the lines.
pub record NotesCut (asked : Asked) (n : ℕ) (came : List TrackCame) (Makes : List File → Type 0)
    (notes notes' : Option (List ℕ)) : Type 0 where
  pub first : AreFirst asked n came
  pub made : Makes (files_of asked.folder came)
  pub told : AppendsPart notes notes' (all_lines asked.folder came)

-- All tracks were made files and told.
pub record UnpacksAll (asked : Asked) (came : List TrackCame) (Makes : List File → Type 0)
    (notes notes' : Option (List ℕ)) (unpacked : Unpacked) : Type 0 where
  pub all : AreFirst asked TABLE_SIZE came
  pub counted : unpacked ≡ count_of asked.folder came
  pub made : Makes (files_of asked.folder came)
  pub told : Appends notes notes' (all_lines asked.folder came)

-- what the answer says of the tracks, where these are the files that are made
abbrev pub SaysOfTracks : Asked → (Makes : List File → Type 0) → (notes notes' : Option (List ℕ))
    → Answer → Type 0
SaysOfTracks asked Makes notes notes' (Ok unpacked) =
    (came : List TrackCame) × UnpacksAll asked came Makes notes notes' unpacked
SaysOfTracks asked Makes notes notes' (Err ReadFault) =
    (n : ℕ) × (came : List TrackCame) × UnpacksTo asked n came Makes notes notes'
SaysOfTracks asked Makes notes notes' (Err (FileFault n)) =
    (came : List TrackCame) × CutAt asked n came Makes notes notes'
SaysOfTracks asked Makes notes notes' (Err NotesFault) =
    (n : ℕ) × (came : List TrackCame) × NotesCut asked n came Makes notes notes'
SaysOfTracks asked Makes notes notes' (Err _) = ⊥

-- so files are made in the folder, which is made before the first of them
abbrev pub SaysInFolder : Asked → (made made' : Option Made) → (notes notes' : Option (List ℕ))
    → Answer → Type 0
SaysInFolder asked made made' notes notes' answer = CanUnpack asked made
    × SaysOfTracks asked (λ files. MakesIn asked.folder files made made') notes notes' answer

-- what the answer says
abbrev pub SaysOf : Asked → (made made' : Option Made) → (notes notes' : Option (List ℕ)) → Answer
    → Type 0
SaysOf asked made made' notes notes' (Err NotThere) =
    IsMissing asked × IsUntouched made made' notes notes'
SaysOf asked made made' notes notes' (Err (Refused why)) =
    HasFault asked (Some why) × IsUntouched made made' notes notes'
SaysOf asked made made' notes notes' (Err (Exists n)) =
    (n < TABLE_SIZE) × HasFault asked None × IsFirstThere made asked.folder (Some n)
    × IsUntouched made made' notes notes'
SaysOf asked made made' notes notes' (Err FolderFault) =
    CanUnpack asked made × IsUntouched made made' notes notes'
SaysOf asked made made' notes notes' (Err ReadFault) =
    IsUntouched made made' notes notes'
    ⊎ SaysInFolder asked made made' notes notes' (Err ReadFault)
SaysOf asked made made' notes notes' answer = SaysInFolder asked made made' notes notes' answer
