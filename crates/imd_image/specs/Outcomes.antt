-- What writing a disk as a file of ImageDisk may answer, and what that says of the dumps and of the
-- bytes that were written.
use Rattle.std.specs.Prelude.{◌≡◌, ◌<◌, ◌⊎◌, ℕ, List, [], ◌∷◌, ◌++◌, codes, flat_map, get_or}
use Rattle.std.specs.Prelude.{length, Option, Some, None, Result, Ok, Err}
use Rattle.std.specs.Io.KnownBytes.{Appends}
use Rattle.dump_reading.specs.DumpStreams.{HaveComeOf}
use Rattle.dump_reading.specs.Files.{ShelfNow}
use Rattle.dump_reading.specs.declared.fault.NoFiles.{NoFiles}
use Rattle.dump_turns.specs.Reaches.{count_in, track_number}
use Rattle.dump_turns.specs.declared.reach.Reach.{Reach}
use Rattle.flux_engine.specs.Answers.{AppendsAndPart}
use Rattle.flux_engine.specs.Plans.{Seen}
use Rattle.flux_engine.specs.declared.fault.Stopped.{Stopped}
use Rattle.flux_engine.specs.declared.fault.Stopped.TheVariants.{ReadFault, ImageFault}
use Rattle.flux_engine.specs.declared.fault.Stopped.TheVariants.{NotesFault, Refused}
use Rattle.track_shelf.specs.Files.{File}
use Rattle.track_shelf.specs.declared.stepping.Stepping.{Stepping}
use Rattle.imd_image.specs.Found.{IsFoundOf, TrackFound, file_part, found_at}
use Rattle.imd_image.specs.Lines.{end_text, lines_part}
use Rattle.imd_image.specs.Reaches.{IsReachIn, IsWithout, of_reach}
use Rattle.imd_image.specs.Totals.{totals_of}
use Rattle.imd_image.specs.declared.totals.ImdTotals.{ImdTotals}

-- the dumps that are asked for, by their names, and the drive's steps
pub record DumpsAsked : Type 0 where
  pub stepping : Stepping
  pub names : List (List ℕ)

-- The first bytes of a file: a version and a date, a line of the writer's own, and the byte that
-- ends it (IMD 1.18).
abbrev pub BEGIN : List ℕ
BEGIN = codes "IMD 1.18: 01/01/1980 00:00:00\r\nflux\r\n" ++ 0x1A ∷ []

abbrev pub streams_at : List (List Seen) → ℕ → List Seen
streams_at came n = get_or came n []

-- The files of the first tracks were read, each once, and this is what was found: of each track
-- what the streams of its dumps say.
pub record HaveFound (asked : DumpsAsked) (start now : ShelfNow) (reach : Reach)
    (founds : List TrackFound) : Type 0 where
  pub came : List (List Seen)
  pub many : length came ≡ length founds
  pub have : HaveComeOf (of_reach asked.stepping asked.names reach) start now
      (flat_map (λ streams. streams) came)
  pub each : (n : ℕ) → n < length founds → length (streams_at came n) ≡ length asked.names
  pub are : (n : ℕ) → n < length founds
      → IsFoundOf (track_number reach n) (streams_at came n) (found_at founds n)

-- what tracks come to: the file, and the report up to its end
abbrev pub file_of : List TrackFound → List ℕ
file_of founds = BEGIN ++ flat_map file_part founds

abbrev pub lines_of : DumpsAsked → List TrackFound → List ℕ
lines_of asked founds = flat_map (lines_part (length asked.names)) founds

-- where the files are told, so far they reach
abbrev pub IsReachTold : Option (List File) → DumpsAsked → Reach → Type 0
IsReachTold None asked reach = Unit {0}
IsReachTold (Some files) asked reach = IsReachIn files asked.stepping asked.names reach

-- this was found of all tracks
pub record AllFound (asked : DumpsAsked) (start now : ShelfNow) (reach : Reach)
    (founds : List TrackFound) : Type 0 where
  pub reach_is : IsReachTold start.told.files asked reach
  pub all : length founds ≡ count_in reach
  pub have : HaveFound asked start now reach founds

-- of some, and of one more
pub record SomeFound (asked : DumpsAsked) (start now : ShelfNow) (reach : Reach)
    (founds : List TrackFound) (next : TrackFound) : Type 0 where
  pub reach_is : IsReachTold start.told.files asked reach
  pub few : length founds < count_in reach
  pub have : HaveFound asked start now reach (founds ++ next ∷ [])

-- all was written
pub record WroteImd (asked : DumpsAsked) (start now : ShelfNow)
    (file file' notes notes' : Option (List ℕ)) (totals : ImdTotals) : Type 0 where
  pub reach : Reach
  pub founds : List TrackFound
  pub all : AllFound asked start now reach founds
  pub file_is : Appends file file' (file_of founds)
  pub notes_are : Appends notes notes' (lines_of asked founds ++ end_text asked.stepping totals)
  pub totals_are : totals ≡ totals_of founds

-- The begin of the file was cut: no file was read.
pub record CutInBegin (start now : ShelfNow)
    (file file' notes notes' : Option (List ℕ)) : Type 0 where
  pub now_is : now ≡ start
  pub file_is : AppendsAndPart file file' [] BEGIN
  pub notes_are : notes' ≡ notes

-- The record of a track was cut: those before it are whole, and so are their lines.
pub record CutInRecord (asked : DumpsAsked) (start now : ShelfNow)
    (file file' notes notes' : Option (List ℕ)) : Type 0 where
  pub reach : Reach
  pub founds : List TrackFound
  pub next : TrackFound
  pub some : SomeFound asked start now reach founds next
  pub file_is : AppendsAndPart file file' (file_of founds) (file_part next)
  pub notes_are : Appends notes notes' (lines_of asked founds)

-- The lines of a track were cut: its record is whole.
pub record CutInLines (asked : DumpsAsked) (start now : ShelfNow)
    (file file' notes notes' : Option (List ℕ)) : Type 0 where
  pub reach : Reach
  pub founds : List TrackFound
  pub next : TrackFound
  pub some : SomeFound asked start now reach founds next
  pub file_is : Appends file file' (file_of (founds ++ next ∷ []))
  pub notes_are : AppendsAndPart notes notes' (lines_of asked founds)
      (lines_part (length asked.names) next)

-- The lines behind those of all tracks were cut.
pub record CutInEnd (asked : DumpsAsked) (start now : ShelfNow)
    (file file' notes notes' : Option (List ℕ)) : Type 0 where
  pub reach : Reach
  pub founds : List TrackFound
  pub all : AllFound asked start now reach founds
  pub file_is : Appends file file' (file_of founds)
  pub notes_are : AppendsAndPart notes notes' (lines_of asked founds)
      (end_text asked.stepping (totals_of founds))

-- The first dump that has none of the files is told; nothing was read or written.
pub record NoImd (asked : DumpsAsked) (start now : ShelfNow)
    (file file' notes notes' : Option (List ℕ)) (refused : NoFiles) : Type 0 where
  pub first : (files : List File) → start.told.files ≡ Some files
      → IsWithout files asked.stepping asked.names refused.dump
  pub low : refused.dump < length asked.names
  pub now_is : now ≡ start
  pub file_is : file' ≡ file
  pub notes_are : notes' ≡ notes

abbrev pub SaysOfImd : DumpsAsked → (start now : ShelfNow)
    → (file file' notes notes' : Option (List ℕ))
    → Result ImdTotals (Stopped NoFiles) → Type 0
SaysOfImd asked start now file file' notes notes' (Ok totals) =
    WroteImd asked start now file file' notes notes' totals
SaysOfImd asked start now file file' notes notes' (Err ReadFault) = ⊥
SaysOfImd asked start now file file' notes notes' (Err ImageFault) =
    CutInBegin start now file file' notes notes'
    ⊎ CutInRecord asked start now file file' notes notes'
SaysOfImd asked start now file file' notes notes' (Err NotesFault) =
    CutInLines asked start now file file' notes notes'
    ⊎ CutInEnd asked start now file file' notes notes'
SaysOfImd asked start now file file' notes notes' (Err (Refused refused)) =
    NoImd asked start now file file' notes notes' refused
