-- How far a track is found.
use Rattle.std.specs.Prelude.{◌≡◌, ◌<◌, ℕ, ◌*◌, List, ◌++◌, flat_map, get_or, length}
use Rattle.dump_reading.specs.DumpStreams.{DumpTracks, GaveOf, HaveComeOf}
use Rattle.dump_reading.specs.Files.{ShelfNow}
use Rattle.flux_base.specs.declared.track.TrackId.{TrackId}
use Rattle.flux_engine.specs.Plans.{Seen, passed_one}
use Rattle.flux_engine.specs.declared.gathered_track.PassedStream.{PassedStream}
use Rattle.ibm_walks.specs.Walks.{HaveNoted}
use Rattle.imd_records.specs.Choices.{names_by}
use Rattle.imd_records.specs.declared.books.TrackBooks.{TrackBooks}
use Rattle.imd_records.specs.declared.mode.Mode.{Mode}
use Rattle.track_shelf.specs.declared.stepping.Stepping.{Stepping}
use Rattle.imd_image.specs.Found.{IsFoundOf, TrackFound, passed_in}
use Rattle.imd_image.specs.Streams.{AreNamesIn, AreNamesOf}
use Rattle.imd_image.specs.declared.room.TrackRoom.{TrackRoom}

-- what stands in the room
abbrev pub found_in : TrackRoom → TrackFound
found_in room = record {
  track = room.track;
  passed = room.passed.items;
  names = names_by room.books;
  choice = room.choice;
  rows = room.rows.items;
}

-- All that a stream says was noted.
abbrev pub HasNotedStream : Seen → (dump : ℕ) → (old new : TrackBooks) → Type 0
HasNotedStream seen dump old new =
    (mode : Mode) → HaveNoted (AreNamesIn mode seen dump) (names_by old mode) (names_by new mode)

-- The file of a track in a dump was read, and all that it says was noted, or that it was passed
-- over.
pub record HasNotedFile (stepping : Stepping) (dumps : List (List ℕ)) (track : TrackId) (dump : ℕ)
    (start now : ShelfNow) (old new : TrackBooks) (passed passed' : List PassedStream)
    : Type 0 where
  pub here : Seen
  pub gave : GaveOf stepping dumps track dump start now here
  pub noted : HasNotedStream here dump old new
  pub passed_are : passed' ≡ passed ++ passed_one dump here.passed

-- These streams came of a track's files, behind all that came before.
abbrev pub HaveCome : DumpTracks → TrackId → (start now : ShelfNow) → List Seen → Type 0
HaveCome of track start now streams = (first : ShelfNow) (before : List Seen) (number : ℕ)
    → of.track_of number ≡ track → length before ≡ number * of.count
    → HaveComeOf of first start before → HaveComeOf of first now (before ++ streams)

-- The files of a track in the first dumps were read, and all that they say was noted.
pub record HaveNotedFiles (of : DumpTracks) (track : TrackId) (count : ℕ) (start now : ShelfNow)
    (books : TrackBooks) (passed : List PassedStream) : Type 0 where
  pub streams : List Seen
  pub many : length streams ≡ count
  pub came : HaveCome of track start now streams
  pub names : (mode : Mode) → AreNamesOf mode streams (names_by books mode)
  pub passed_are : passed ≡ passed_in streams

-- A track was found.
pub record HasFoundTrack (of : DumpTracks) (number : ℕ) (start now : ShelfNow)
    (found : TrackFound) : Type 0 where
  pub streams : List Seen
  pub many : length streams ≡ of.count
  pub came : HaveCome of (of.track_of number) start now streams
  pub is : IsFoundOf (of.track_of number) streams found
