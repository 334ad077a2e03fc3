-- What one stream comes to as a track, in numbers: as controllers read, by the clock that follows
-- the drive.
use Rattle.std.specs.Prelude.{◌≡◌, ◌≤◌, List, map}
use Rattle.flux_base.specs.declared.track.TrackId.{TrackId}
use Rattle.sector_images.specs.declared.format.Format.{Format}
use Rattle.turn_merge.specs.Others.{NotedOther, has_untold, others_over}
use Rattle.turn_merge.specs.Readings.{NotedReading, verdict}
use Rattle.flux_engine.specs.Captured.{AreNamesOf, AreOthersOf, AreReadingsOf}
use Rattle.flux_engine.specs.Counts.{names_of, whole_names_of}
use Rattle.flux_engine.specs.Disks.{no_totals}
use Rattle.flux_engine.specs.Plans.{Seen}
use Rattle.flux_engine.specs.Recordings.{sectors_of}
use Rattle.flux_engine.specs.Tracks.{numbers, totals_of}
use Rattle.flux_engine.specs.Writing.{IsSum}
use Rattle.flux_engine.specs.declared.plan.Clocks.TheVariants.{FollowingAlone}
use Rattle.flux_engine.specs.declared.plan.Rule.TheVariants.{Controller}
use Rattle.flux_engine.specs.declared.track_tally.TrackTally.{TrackTally}

-- these are the numbers of some headers that name none of a track's sectors
pub record CountsOthers (others : List NotedOther) (tally : TrackTally) : Type 0 where
  pub told : tally.others ≡ names_of (others_over others) (has_untold others)
  pub whole : tally.whole ≡ whole_names_of (others_over others) (has_untold others)

-- The stream, as the one capture of this track of a format: each sector is counted by what all its
-- readings say together.
pub record IsTallyOf (format : Format) (track : TrackId) (here : Seen)
    (tally : TrackTally) : Type 0 where
  pub readings : List NotedReading
  pub are : AreReadingsOf Controller FollowingAlone format track here.times here.indexes 0 readings
  pub sectors : tally.sectors
      ≡ totals_of (map (verdict readings) (numbers (sectors_of format track)))
  pub others : List NotedOther
  pub others_are : AreOthersOf Controller FollowingAlone format track here.times here.indexes 0
      others
  pub counted : CountsOthers others tally

-- The same as a track that is none of the format's, read with the cells of this one: no sector is
-- wanted, and all headers are others.
pub record IsNameTallyOf (format : Format) (near : TrackId) (here : Seen)
    (tally : TrackTally) : Type 0 where
  pub sectors : tally.sectors ≡ no_totals
  pub others : List NotedOther
  pub others_are : AreNamesOf FollowingAlone format near here.times here.indexes 0 others
  pub counted : CountsOthers others tally

-- so few sectors and names are counted
pub record IsFewTally (tally : TrackTally) : Type 0 where
  pub sum : IsSum tally.sectors
  pub sectors : tally.sectors.sectors ≤ 100
  pub others : tally.others ≤ 65
  pub whole : tally.whole ≤ 65
