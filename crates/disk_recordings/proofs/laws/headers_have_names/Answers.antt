use Rattle.disk_recordings.specs.Recordings.{ANY_ID, recording_of}
use Rattle.disk_recordings.proofs.laws.headers_have_names.Goals as goal

pub returns : goal.returns
returns c = record {
  told = λ format track. c.headers_are_told.ensures.told (recording_of format ANY_ID) track;
  own_data = λ format track. c.headers_are_told.ensures.own_data (recording_of format ANY_ID) track;
}
