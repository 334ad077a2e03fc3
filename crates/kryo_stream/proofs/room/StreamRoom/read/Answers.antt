use Rattle.kryo_stream.proofs.room.StreamRoom.read.Goals as goal
use Rattle.kryo_stream.proofs.room.StreamRoom.read.Goals.{in-Ok, in-Err-ReadFault, in-Err-Refused}

pub returns-clause-read : goal.returns-clause-read
returns-clause-read g c = elim c.match-read_track.branch [
  | in-Ok w ↦ rw (w.result-is, ← c.self.view_is) w.in-Ok.ensures.read
  | in-Err-ReadFault w ↦ rw (w.result-is, ← c.self.view_is) (rw w.in-Err-ReadFault.field-0-is at w.in-Err-ReadFault.ensures.read)
  | in-Err-Refused w ↦ rw (w.result-is, ← c.self.view_is) (rw w.in-Err-Refused.field-0-is at w.in-Err-Refused.ensures.read)
]
