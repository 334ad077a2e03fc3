use Rattle.disk_recordings.specs.Recordings.{recording_of}
use Rattle.disk_recordings.proofs.Agree.{agrees}
use Rattle.disk_recordings.proofs.Recorded.{are_sectors, has_track}
use Rattle.disk_recordings.proofs.laws.tracks_have_no_others.Goals as goal

pub returns : goal.returns
returns c = λ format id track bytes zeros from count behind known are place name other.
    let same = agrees format id in
    c.no_others.ensures (recording_of format id) track bytes zeros from count behind (has_track format id track known)
    (are_sectors format id track known bytes are) place name
    ((same.named _ name).1 other.0, λ s header. other.1 s ((same.header track _ s).0 header))
