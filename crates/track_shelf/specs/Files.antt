-- The files of dumps, and which of them a folder and a path have.
use Rattle.std.specs.Prelude.{◌≡◌, ℕ, zero, suc, Bool, List, [], drop, Option, Some, None, Result}
use Rattle.std.specs.Prelude.{Ok, Err, if◌then◌else◌}
use Rattle.std.specs.List.{find, flat_map, position_from}
use Rattle.std.specs.Option.{is_none, is_some, option_and_then, option_map}
use Rattle.std.specs.Str.{bytes_eq}
use Rattle.flux_base.specs.Outside.{risen}
use Rattle.flux_base.specs.declared.outside.Failed.{Failed}
use Rattle.flux_base.specs.declared.track.TrackId.{TrackId}
use Rattle.sector_images.specs.Places.{tracks}
use Rattle.sector_images.specs.declared.format.Format.{Format}
use Rattle.scp_files.specs.Disks.{scp_track}
use Rattle.scp_files.specs.declared.fault.ScpTrackFault.{ScpTrackFault}
use Rattle.track_shelf.specs.Names.{folder_path, is_scp, path_text}

-- a file: its path, and its bytes
pub record File : Type 0 where
  pub path : List ℕ
  pub bytes : List ℕ

-- the file has this path
abbrev pub has_path : List ℕ → File → Bool
has_path path file = bytes_eq file.path path

-- the file of a path, if it is there; of two files of one path the first counts
abbrev pub file_at : List File → (path : List ℕ) → Option File
file_at files path = find (has_path path) files

-- a track's file in a folder, if it is there
abbrev pub file_of : List File → (folder : List ℕ) → TrackId → Option File
file_of files folder track = file_at files (folder_path folder track)

-- a track of an SCP file, if both are there
abbrev pub scp_track_in : Option File → TrackId → Option (Result (List ℕ) ScpTrackFault)
scp_track_in file track = option_and_then (λ (it : File). scp_track it.bytes track) file

-- A track of a dump, if it is there: all bytes of its file; or of an SCP file the stream that the
-- track stands for, or why it stands for none.
abbrev pub dump_track : List File → (dump : List ℕ) → TrackId
    → Option (Result (List ℕ) ScpTrackFault)
dump_track files dump track =
    if is_scp dump
    then scp_track_in (file_at files dump) track
    else option_map (λ (file : File). Ok file.bytes) (file_at files (path_text dump track))

-- whether it is there
abbrev pub has_track : List File → (dump : List ℕ) → TrackId → Bool
has_track files dump track = is_some (dump_track files dump track)

-- the number of the format's first track whose file the folder lacks, if it lacks one
unfoldable pub first_missing : List File → List ℕ → Format → Option ℕ
first_missing files folder format =
    position_from (λ track. is_none (file_of files folder track)) 0 (tracks format)

-- the bytes of a file, if there is one
abbrev pub bytes_in : Option File → List ℕ
bytes_in None = []
bytes_in (Some file) = file.bytes

-- the bytes of a track's file
abbrev pub track_bytes : List File → List ℕ → TrackId → List ℕ
track_bytes files folder track = bytes_in (file_of files folder track)

-- the wanted files joined: the bytes of the files of all the format's tracks,
-- in the order of their numbers
unfoldable pub joined : List File → List ℕ → Format → List ℕ
joined files folder format = flat_map (track_bytes files folder) (tracks format)

-- an answer names the first track whose file is missing, where the files are told
abbrev pub NamesMissing : Option (List File) → List ℕ → Format → Result (Option ℕ) Failed → Type 0
NamesMissing (Some files) folder format (Ok missing) = missing ≡ first_missing files folder format
NamesMissing _ folder format _ = Unit {0}

-- what is left by an answer: the wanted files joined, where none is missing and the files are
-- told; else what was left before
abbrev pub LeavesWanted : Option (List File) → List ℕ → Format → Result (Option ℕ) Failed
    → (old new : Option (List ℕ)) → Type 0
LeavesWanted (Some files) folder format (Ok None) old new = new ≡ Some (joined files folder format)
LeavesWanted None folder format (Ok None) old new = Unit {0}
LeavesWanted told folder format (Ok (Some number)) old new = new ≡ old
LeavesWanted told folder format (Err _) old new = new ≡ old

-- an answer hands out the file of a path, whose bytes from this place on are still to come, where
-- the files are told; none, where there is none
abbrev pub OpensAt : {F : Type 0} → (left : F → Option (List ℕ)) → Option (List File)
    → (path : List ℕ) → (offset : ℕ) → Result (Option F) Failed → Type 0
OpensAt left (Some files) path offset (Ok None) = file_at files path ≡ None
OpensAt left (Some files) path offset (Ok (Some opened)) =
    (file : File) × (file_at files path ≡ Some file) × (left opened ≡ Some (drop offset file.bytes))
OpensAt left _ path offset _ = Unit {0}

-- all its bytes are
abbrev pub Opens : {F : Type 0} → (left : F → Option (List ℕ)) → Option (List File)
    → (path : List ℕ) → Result (Option F) Failed → Type 0
Opens left told path result = OpensAt left told path 0 result

-- what is handed out has not failed
abbrev pub NoneFailed : {F : Type 0} → (faults : F → ℕ) → Result (Option F) Failed → Type 0
NoneFailed faults (Ok (Some opened)) = faults opened ≡ 0
NoneFailed faults _ = Unit {0}

-- none failed yet of the calls on a file, where the shelf tells how many of its own did
abbrev pub none_yet : (shelf : Option ℕ) → Option ℕ
none_yet None = None
none_yet (Some count) = Some 0

-- what is handed out tells how many of its calls failed where the shelf does, and they are none yet
abbrev pub CountsFromNone : {F : Type 0} → (failed : F → Option ℕ) → (shelf : Option ℕ)
    → Result (Option F) Failed → Type 0
CountsFromNone failed shelf (Ok (Some opened)) = failed opened ≡ none_yet shelf
CountsFromNone failed shelf _ = Unit {0}

-- a count that rises so often
abbrev pub risen_by : (often count : ℕ) → ℕ
risen_by zero count = count
risen_by (suc often) count = risen (risen_by often count)

-- the failed calls of a shelf that takes over those of a file
abbrev pub taken_over : (file shelf : Option ℕ) → Option ℕ
taken_over None shelf = shelf
taken_over (Some often) None = None
taken_over (Some often) (Some count) = Some (risen_by often count)
