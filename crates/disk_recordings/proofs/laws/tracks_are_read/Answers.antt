use Rattle.std.proofs.Common.{ℕ, subst}
use Rattle.frame_law.specs.Laws.{SectorsAreTold}
use Rattle.disk_recordings.specs.Members.{header_at, sector_at}
use Rattle.disk_recordings.specs.Recordings.{ANY_ID, recording_of}
use Rattle.disk_recordings.proofs.Agree.{agrees}
use Rattle.disk_recordings.proofs.laws.tracks_are_read.Goals as goal

pub returns : goal.returns
returns c = record {
  told = λ format track.
      subst (λ (size : ℕ). SectorsAreTold (header_at format track) (sector_at format track) size) (agrees format ANY_ID).size
      (c.sectors_are_told.ensures (recording_of format ANY_ID) track);
  all = λ format track. c.readings_are_all.ensures.all (recording_of format ANY_ID) track;
  one = λ format track. c.readings_are_all.ensures.one (recording_of format ANY_ID) track;
}
