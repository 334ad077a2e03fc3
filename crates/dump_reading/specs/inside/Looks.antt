-- What looking at the tracks beside the format's comes to: of one of them, and of all.
use Rattle.std.specs.Prelude.{◌≡◌, ◌<◌, ℕ, ◌+◌, ◌-◌, true, List, [], ◌∷◌, ◌++◌, length, Option}
use Rattle.std.specs.Prelude.{Result, Ok}
use Rattle.std.specs.Io.KnownBytes.{Appends}
use Rattle.flux_base.specs.Blames.{no_counts}
use Rattle.flux_base.specs.Moments.{Moment, Puts}
use Rattle.flux_base.specs.declared.outside.Failed.{Failed}
use Rattle.flux_base.specs.declared.track.TrackId.{TrackId}
use Rattle.sector_report.specs.declared.totals.Totals.{Totals}
use Rattle.turn_merge.specs.Others.{NotedOther, OthersStandFor}
use Rattle.flux_engine.specs.Answers.{AppendsAndPart}
use Rattle.flux_engine.specs.Counts.{lost_in, told_count, whole_count}
use Rattle.flux_engine.specs.LoopProgress.{lost_count, seen_at}
use Rattle.flux_engine.specs.Plans.{AreNamesTo, Seen}
use Rattle.flux_engine.specs.Room.{RoomState}
use Rattle.flux_engine.specs.SecondSinks.{SecondNow}
use Rattle.flux_engine.specs.declared.plan.Plan.{Plan}
use Rattle.dump_reading.specs.Beside.{LinesOf, beside_to, lines_at, lines_to, looks_beside}
use Rattle.dump_reading.specs.Beside.{near_track, of_beside, told_beside}
use Rattle.dump_reading.specs.DumpStreams.{DumpTracks, HaveComeOf}
use Rattle.dump_reading.specs.Files.{ShelfNow}
use Rattle.dump_reading.specs.Outcomes.{DumpDisk, LookedAsAsked, LookedBeside, lines_of}

-- of these streams and others so many more are counted
pub record CountsMore (old new : RoomState) (came : List Seen)
    (others : List (List NotedOther)) : Type 0 where
  pub unread : new.unread ≡ old.unread + told_beside came
  pub lost : new.lost ≡ old.lost + lost_count came
  pub told : new.told_others ≡ old.told_others + told_count others
  pub whole : new.whole_others ≡ old.whole_others + whole_count others

-- After the streams before, the first q of one of these tracks came: the room has those that are
-- passed over, and all headers of the others.
pub record HasTakenTo (plan : Plan) (near : TrackId) (tracks : DumpTracks) (start now : ShelfNow)
    (before : List Seen) (room : RoomState) (q : ℕ) : Type 0 where
  pub more : List Seen
  pub many : length more ≡ q
  pub came : HaveComeOf tracks start now (before ++ more)
  pub others : List NotedOther
  pub names : AreNamesTo plan room.format near (seen_at more) q others
  pub stand : OthersStandFor room.others others
  pub passed_are : room.passed ≡ beside_to (seen_at more) q
  pub passed_many : length room.passed ≡ told_beside more
  pub lost_many : lost_in room.passed ≡ lost_count more

-- a sink of which the bytes alone are looked at
abbrev pub untold : Option (List ℕ) → Moment (Unit {0})
untold bytes = record { object = tt; bytes = bytes; counts = no_counts }

-- After the streams before, those of one of these tracks came, they are counted, and its lines
-- were written, or a part of them.
pub record LooksAtOne {A : Type 0} (of : LinesOf) (plan : Plan) (track : TrackId)
    (tracks : DumpTracks) (start now : ShelfNow) (before : List Seen) (old new : RoomState)
    (notes notes' : Moment A)
    (answer : Result (Unit {0}) Failed) : Type 0 where
  pub more : List Seen
  pub many : length more ≡ tracks.count
  pub came : HaveComeOf tracks start now (before ++ more)
  pub others : List NotedOther
  pub names : AreNamesTo plan old.format (near_track old.format track) (seen_at more) tracks.count
      others
  pub counted : CountsMore old new more (others ∷ [])
  pub puts : Puts notes notes' (of track (beside_to (seen_at more) tracks.count) others) answer

-- The first of these tracks were looked at, and their lines were written.
pub record HasLooked (of : LinesOf) (disk : DumpDisk) (start now : ShelfNow) (old new : RoomState)
    (notes notes' : Option (List ℕ)) : Type 0 where
  pub beside : LookedBeside disk start.told.files
  pub came : HaveComeOf (of_beside disk.stepping disk.dumps disk.format) start now beside.came
  pub counted : CountsMore old new beside.came beside.others
  pub notes_grew : Appends notes notes' (lines_of of beside)

-- all were, where that is asked for, or none
pub record LooksAsAsked (of : LinesOf) (disk : DumpDisk) (sectors : Totals) (start now : ShelfNow)
    (old new : RoomState) (notes notes' : Option (List ℕ)) : Type 0 where
  pub has : HasLooked of disk start now old new notes notes'
  pub looked : LookedAsAsked sectors has.beside

-- One of them, as the second of two sinks took its lines, as long as both take all.
abbrev pub LooksAtOneSecond : LinesOf → Plan → TrackId → DumpTracks → (start now : ShelfNow) → List Seen
    → (old new : RoomState) → (second second' : SecondNow) → Type 0
LooksAtOneSecond of plan track tracks start now before old new second second' =
    second'.sound ≡ true
    → (second.sound ≡ true) × (second'.image ≡ second.image)
    × LooksAtOne of plan track tracks start now before old new (untold second.notes)
    (untold second'.notes) (Ok tt)

-- all, where that is asked for, or none
abbrev pub LooksAsAskedSecond : LinesOf → DumpDisk → Totals → (start now : ShelfNow)
    → (old new : RoomState) → (second second' : SecondNow) → Type 0
LooksAsAskedSecond of disk sectors start now old new second second' =
    second'.sound ≡ true
    → (second.sound ≡ true) × (second'.image ≡ second.image)
    × LooksAsAsked of disk sectors start now old new second.notes second'.notes

-- or they are asked for, and of the last one of the first ones a part of its lines was written
-- that is shorter than they are
pub record LooksInto (of : LinesOf) (disk : DumpDisk) (sectors : Totals) (start now : ShelfNow)
    (notes notes' : Option (List ℕ)) : Type 0 where
  pub asked : looks_beside disk.looks sectors ≡ true
  pub beside : LookedBeside disk start.told.files
  pub some : 0 < length beside.others
  pub came : HaveComeOf (of_beside disk.stepping disk.dumps disk.format) start now beside.came
  pub notes_grew : AppendsAndPart notes notes'
      (lines_to of disk.stepping disk.dumps disk.format beside.came beside.others
      (length beside.others - 1))
      (lines_at of disk.stepping disk.dumps disk.format beside.came beside.others
      (length beside.others - 1))
