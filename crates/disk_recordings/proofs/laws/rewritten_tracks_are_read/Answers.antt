use Rattle.std.proofs.Common.{ℕ, subst}
use Rattle.frame_law.specs.Controller.{DataAreTold}
use Rattle.disk_recordings.specs.Members.{data_at}
use Rattle.disk_recordings.specs.Recordings.{ANY_ID, recording_of}
use Rattle.disk_recordings.proofs.Agree.{agrees}
use Rattle.disk_recordings.proofs.Rewritten.{strict_stands}
use Rattle.disk_recordings.proofs.laws.rewritten_tracks_are_read.Goals as goal

pub returns : goal.returns
returns c = record {
  of_header = λ format cells. c.data_are_read.ensures.of_header (recording_of format ANY_ID) cells;
  of_track = λ format track cells. c.data_are_read.ensures.of_track (recording_of format ANY_ID) track cells;
  told = λ format.
      subst (λ (size : ℕ). DataAreTold (data_at format) size) (agrees format ANY_ID).size (c.data_are_read.ensures.told (recording_of format ANY_ID));
  strict = strict_stands (λ format track. c.data_are_read.ensures.strict (recording_of format ANY_ID) track)
      c.tracks_are_read.ensures.told c.apple_disks_are_read_too.ensures.dos c.apple_disks_are_read_too.ensures.prodos;
}
