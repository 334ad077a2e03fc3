-- What is found of the files of a dump.
use Rattle.std.specs.Prelude.{◌≡◌, ◌<◌, ℕ, min, filter_map, get_or, List, length, Option, Some}
use Rattle.std.specs.Prelude.{None, Result, Ok}
use Rattle.scp_files.specs.declared.fault.ScpTrackFault.{ScpTrackFault}
use Rattle.track_shelf.specs.Files.{File, dump_track}
use Rattle.sector_report.specs.declared.dump_lines.Passed.TheVariants.{Absent}
use Rattle.flux_engine.specs.LoopProgress.{seen_at}
use Rattle.flux_engine.specs.Plans.{Seen}
use Rattle.dump_reading.specs.DumpStreams.{HaveComeOf}
use Rattle.dump_reading.specs.Files.{ShelfNow}
use Rattle.dump_turns.specs.Reaches.{of_dump, track_number}
use Rattle.dump_turns.specs.Turns.{AreTurns, IsBoundedTurns, mean_of}
use Rattle.dump_turns.specs.declared.found.Found.{Found}
use Rattle.dump_turns.specs.declared.found.Found.TheVariants.{PassedOver, Read}
use Rattle.dump_turns.specs.declared.reach.Reach.{Reach}

-- the most bytes of a file that are read and counted
abbrev pub MOST_BYTES : ℕ
MOST_BYTES = 8388608

-- a file of which this is seen is passed over for that reason, or these are its revolutions
abbrev pub IsToldOf : Seen → Found → Type 0
IsToldOf seen (PassedOver why) = seen.passed ≡ Some why
IsToldOf seen (Read turns) =
    (seen.passed ≡ None) × AreTurns seen.times seen.indexes turns × IsBoundedTurns turns

-- the bytes of the file are counted, or those of the stream that a track of an SCP file stands for
abbrev pub HasSize : Option (Result (List ℕ) ScpTrackFault) → Found → Type 0
HasSize (Some (Ok bytes)) (Read turns) = turns.bytes ≡ min (length bytes) MOST_BYTES
HasSize _ _ = Unit {0}

abbrev pub found_at : List Found → ℕ → Found
found_at founds n = get_or founds n (PassedOver Absent)

-- The first files of these tracks of a dump, one after the other, each read once: what came of
-- them, and that is what is found.
pub record AreFound (dump : List ℕ) (reach : Reach) (start now : ShelfNow)
    (founds : List Found) : Type 0 where
  pub came : List Seen
  pub many : length came ≡ length founds
  pub have : HaveComeOf (of_dump dump reach) start now came
  pub told : (n : ℕ) → n < length founds → IsToldOf (seen_at came n) (found_at founds n)
  pub sized : (files : List File) → start.told.files ≡ Some files → (n : ℕ) → n < length founds
      → HasSize (dump_track files dump (track_number reach n)) (found_at founds n)

-- the mean of a file's revolutions, where it is read
abbrev pub mean_in : Found → Option ℕ
mean_in (PassedOver why) = None
mean_in (Read turns) = Some (mean_of turns)

-- those of all files that are read, in order
abbrev pub means_in : List Found → List ℕ
means_in founds = filter_map mean_in founds
