use Rattle.std.proofs.Common.{◌∙◌}
use Rattle.disk_recordings.specs.Recordings.{ANY_ID, recording_of}
use Rattle.disk_recordings.proofs.Agree.{agrees}
use Rattle.disk_recordings.proofs.Recorded.{are_sectors, has_track, is_number, lies}
use Rattle.disk_recordings.proofs.laws.tracks_have_rings.Goals as goal

pub returns-clause-cells : goal.returns-clause-cells
returns-clause-cells c = λ format id track bytes known are.
    let recording = recording_of format id in
    let has = has_track format id track known in
    let whole = are_sectors format id track known bytes are in (
      c.rings_hold_sectors.ensures.length recording track bytes has whole ∙ (agrees format id).ring_cells track known,
      c.rings_hold_sectors.ensures.spaced recording track bytes has whole,
    )

pub returns-clause-stand : goal.returns-clause-stand
returns-clause-stand c = λ format id track bytes s from count place known are sector at.
    let here = c.rings_hold_sectors.ensures.stand (recording_of format id) track bytes s from count place (has_track format id track known)
    (are_sectors format id track known bytes are) (is_number format id track known s sector) (lies format id track known s from count place at) in
    ((agrees format id).sector track _ s _).0 (rw ((agrees format id).first, (agrees format id).size) at here)

pub returns-clause-whole : goal.returns-clause-whole
returns-clause-whole c = λ format id track bytes s known are sector.
    let here = c.rings_hold_sectors.ensures.whole (recording_of format id) track bytes s (has_track format id track known)
    (are_sectors format id track known bytes are) (is_number format id track known s sector) in
    rw ((agrees format id).ring_cells track known, (agrees format id).place track s, (agrees format id).frame) at here

pub returns-clause-some : goal.returns-clause-some
returns-clause-some c = λ format. c.rings_hold_sectors.ensures.some (recording_of format ANY_ID)
