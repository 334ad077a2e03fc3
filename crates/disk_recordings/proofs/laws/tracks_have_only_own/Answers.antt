use Rattle.disk_recordings.specs.Recordings.{ANY_ID, recording_of}
use Rattle.disk_recordings.proofs.Agree.{agrees}
use Rattle.disk_recordings.proofs.Recorded.{are_sectors, has_track}
use Rattle.disk_recordings.proofs.laws.tracks_have_only_own.Goals as goal

pub returns-clause-alone : goal.returns-clause-alone
returns-clause-alone c = λ format track known. c.only_own.ensures.alone (recording_of format ANY_ID) track (has_track format ANY_ID track known)

pub returns-clause-between_zeros : goal.returns-clause-between_zeros
returns-clause-between_zeros c = λ format id track bytes zeros from count behind known are.
    let here = c.only_own.ensures.between_zeros (recording_of format id) track bytes zeros from count behind (has_track format id track known)
    (are_sectors format id track known bytes are) in
    record {
      headers = λ place s header.
          let at = here.headers place s (((agrees format id).header track _ s).1 header) in
          rw ((agrees format id).ring_cells track known, (agrees format id).place track s) at at;
      sectors = λ place s content sector.
          let at = here.sectors place s content (((agrees format id).sector track _ s content).1 sector) in
          rw ((agrees format id).ring_cells track known, (agrees format id).place track s, (agrees format id).first, (agrees format id).size) at at;
    }

pub returns-clause-stretches : goal.returns-clause-stretches
returns-clause-stretches c = λ format id track bytes from count known are.
    let here = c.only_own.ensures.stretches (recording_of format id) track bytes from count (has_track format id track known)
    (are_sectors format id track known bytes are) in
    record {
      sectors = λ place s content sector.
          let at = here.sectors place s content (((agrees format id).sector track _ s content).1 sector) in
          rw ((agrees format id).ring_cells track known, (agrees format id).place track s, (agrees format id).first, (agrees format id).size) at at;
      headers = λ place s only.
          let at = here.headers place s (
            ((agrees format id).header track _ s).1 only.0,
            λ t content sector. only.1 t content (((agrees format id).sector track _ t content).0 sector),
          ) in
          rw ((agrees format id).ring_cells track known, (agrees format id).place track s, (agrees format id).frame) at at;
    }
