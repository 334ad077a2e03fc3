-- The files that a dump may have, by their numbers.
use Rattle.std.specs.Prelude.{◌≡◌, ℕ, ◌+◌, ◌*◌, ◌/◌, ◌%◌, ◌<◌, List, [], ◌∷◌, length}
use Rattle.flux_base.specs.declared.track.TrackId.{TrackId}
use Rattle.track_shelf.specs.Stepping.{file_track}
use Rattle.track_shelf.specs.declared.stepping.Stepping.{Stepping}
use Rattle.track_shelf.specs.declared.stepping.Stepping.TheVariants.{Single}
use Rattle.flux_engine.specs.LoopProgress.{seen_at}
use Rattle.flux_engine.specs.Plans.{Seen}
use Rattle.dump_reading.specs.DumpStreams.{DumpTracks}

-- the most files: of 100 cylinders and two heads
abbrev pub MOST_FILES : ℕ
MOST_FILES = 200

-- the track by whose numbers a file is named: cylinder by cylinder, head by head
abbrev pub track_of_file : (number : ℕ) → TrackId
track_of_file number = record { cylinder = number / 2; head = number % 2 }

-- and the number of the file that is named by a track
abbrev pub file_number : TrackId → ℕ
file_number track = 2 * track.cylinder + track.head

-- all of these files of a dump
abbrev pub of_files : (dump : List ℕ) → DumpTracks
of_files dump =
    record { stepping = Single; dumps = dump ∷ []; count = 1; track_of = track_of_file }

-- the number of the file in which a disk's track lies
abbrev pub file_of : Stepping → TrackId → ℕ
file_of stepping track = file_number (file_track stepping track)

-- what came of a disk's tracks is what came of the files in which they lie
abbrev pub AreOfFiles : (came : List Seen) → Stepping → (track_of : ℕ → TrackId) → List Seen
    → Type 0
AreOfFiles came stepping track_of streams = (n : ℕ) → n < length streams
    → seen_at streams n ≡ seen_at came (file_of stepping (track_of n))
