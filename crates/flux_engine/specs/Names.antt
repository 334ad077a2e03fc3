-- Tracks that are none of the format's: all headers in them are noted by their names.
use Rattle.std.specs.Prelude.{◌≡◌, ◌≤◌, ℕ, ◌+◌, ◌*◌, List, ◌++◌, Option, Some, None}
use Rattle.flux_base.specs.declared.track.TrackId.{TrackId}
use Rattle.sector_images.specs.declared.format.Format.{Format}
use Rattle.sector_report.specs.declared.dump_lines.Passed.{Passed}
use Rattle.sector_report.specs.declared.dump_lines.Passed.TheVariants.{Absent, Failed, Refused}
use Rattle.sector_report.specs.declared.dump_lines.Passed.TheVariants.{RefusedScp}
use Rattle.turn_merge.specs.Others.{NotedOther, OthersKnown}
use Rattle.turn_merge.specs.declared.clock.Clock.{Clock}
use Rattle.flux_engine.specs.Captured.{AppendsOthers, AreNamesOf, AreNotedBy, count_of_clocks}
use Rattle.flux_engine.specs.Plans.{Seen, passed_one}
use Rattle.flux_engine.specs.Room.{MOST_READINGS, RoomState}
use Rattle.flux_engine.specs.Rules.{AreNamesIn}
use Rattle.flux_engine.specs.declared.gathered_track.PassedStream.{PassedStream}
use Rattle.flux_engine.specs.declared.plan.Clocks.{Clocks}

-- a stream with its number, where it is passed over; that there is none is not told of such a track
abbrev pub passed_beside : ℕ → Option Passed → List PassedStream
passed_beside q (Some Absent) = passed_one q None
passed_beside q (Some Failed) = passed_one q (Some Failed)
passed_beside q (Some (Refused block fault)) = passed_one q (Some (Refused block fault))
passed_beside q (Some (RefusedScp fault)) = passed_one q (Some (RefusedScp fault))
passed_beside q None = passed_one q None

-- all headers in the cells that a clock recovers of a capture were noted, after those before
pub record HasNamesBy (clock : Clock) (format : Format) (near : TrackId) (times indexes : List ℕ)
    (capture : ℕ) (before after : OthersKnown) : Type 0 where
  pub others : List NotedOther
  pub others_are : AreNotedBy (AreNamesIn format) clock format near times indexes capture others
  pub others_noted : AppendsOthers before after others
  pub few_others : after.notes ≤ before.notes + MOST_READINGS

-- the same by these clocks, one after the other
pub record HasNamesOf (clocks : Clocks) (format : Format) (near : TrackId) (times indexes : List ℕ)
    (capture : ℕ) (before after : OthersKnown) : Type 0 where
  pub others : List NotedOther
  pub others_are : AreNamesOf clocks format near times indexes capture others
  pub others_noted : AppendsOthers before after others
  pub few_others : after.notes ≤ before.notes + MOST_READINGS * count_of_clocks clocks

-- All headers of a capture were noted by these clocks, after those
-- before; or that it is passed over.
pub record HasNotedNames (clocks : Clocks) (format : Format) (near : TrackId) (capture : ℕ)
    (here : Seen) (passed passed' : List PassedStream) (before after : OthersKnown) : Type 0 where
  pub names : HasNamesOf clocks format near here.times here.indexes capture before after
  pub passed_are : passed' ≡ passed ++ passed_beside capture here.passed

-- A stream of such a track came, and this was noted in the room.
pub record HasTakenNames (Gave : Seen → Type 0) (clocks : Clocks) (near : TrackId) (capture : ℕ)
    (old new : RoomState) : Type 0 where
  pub here : Seen
  pub gave : Gave here
  pub noted : HasNotedNames clocks old.format near capture here old.passed new.passed old.others
      new.others
