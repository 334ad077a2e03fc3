use Rattle.disk_recordings.specs.Recordings.{ANY_ID, recording_of}
use Rattle.disk_recordings.proofs.Agree.{agrees}
use Rattle.disk_recordings.proofs.Recorded.{are_sectors, has_track, is_number, lies}
use Rattle.disk_recordings.proofs.laws.rewritten_tracks_have_only_own.Goals as goal

pub returns-clause-alone : goal.returns-clause-alone
returns-clause-alone c = λ format track. c.only_own_data.ensures.alone (recording_of format ANY_ID) track

pub returns-clause-between_zeros : goal.returns-clause-between_zeros
returns-clause-between_zeros c = λ format id track bytes zeros from count behind known are. λ place s content sector.
    let same = agrees format id in
    let at = c.only_own_data.ensures.between_zeros (recording_of format id) track bytes zeros from count behind (has_track format id track known)
    (are_sectors format id track known bytes are) place s content
    ((same.header track _ s).1 sector.0, (sector.1.0, (same.data_same _ sector.1.0 content).1 sector.1.1)) in
    rw (same.ring_cells track known, same.place track s, same.first, same.size) at at

pub returns-clause-stand : goal.returns-clause-stand
returns-clause-stand c = λ format id track bytes s from count place known are sector at.
    let same = agrees format id in
    let here = c.only_own_data.ensures.stand (recording_of format id) track bytes s from count place (has_track format id track known)
    (are_sectors format id track known bytes are) (is_number format id track known s sector) (lies format id track known s from count place at) in
    let own = rw (same.first, same.size) at here in
    ((same.header track _ s).0 own.0, (own.1.0, (same.data_same _ own.1.0 _).0 own.1.1))
