use Rattle.std.proofs.Common.{arith, ap, length}
use Rattle.kryo_stream.proofs.HeldReading.{holds-fault, holds-stream, parts}
use Rattle.kryo_stream.proofs.room.StreamRoom.read_held.Goals as goal
use Rattle.kryo_stream.proofs.room.StreamRoom.read_held.Goals.{in-Ok, in-Err-Refused}

pub overflow_sub-size : goal.overflow_sub-size
overflow_sub-size c =
    let all =
    parts c.args.held.now c.read.new.source c.restart.new.self.used c.restart.ensures.unused c.restart.new.self.held c.restart.ensures.held c.read.new.self.held c.read.new.self.flux
    c.in-Ok.field-0 c.growth_law.ensures.streams c.in-Ok.ensures.read in
    omega (arith, all, ap length c.bytes.ensures.value, ap (λ room. length room.held) c.self.view_is, c.count.ensures)

pub returns-clause-read : goal.returns-clause-read
returns-clause-read c = elim c.match-read.branch [
  | in-Ok w ↦
      rw w.result-is
      (holds-stream c.args.held.now c.read.new.source c.restart.new.self.used c.restart.ensures.unused c.restart.new.self.held c.restart.ensures.held c.read.new.self.held c.read.new.self.flux
      w.in-Ok.field-0 c.growth_law.ensures.streams w.in-Ok.ensures.read _
      (omega (arith, ap length w.bytes.ensures.value, ap (λ room. length room.held) c.self.view_is, w.count.ensures)))
  | in-Err-Refused w ↦ rw w.result-is tt
]

pub returns-clause-refused : goal.returns-clause-refused
returns-clause-refused c = elim c.match-read.branch [
  | in-Ok w ↦ rw w.result-is tt
  | in-Err-Refused w ↦
      rw (w.result-is, w.in-Err-Refused.field-0-is)
      (holds-fault c.args.held.now c.read.new.source c.restart.new.self.used c.restart.ensures.unused c.restart.new.self.held c.restart.ensures.held c.read.new.self.held c.read.new.self.flux
      w.in-Err-Refused.block w.in-Err-Refused.fault (rw w.in-Err-Refused.field-0-is at w.in-Err-Refused.ensures.read))
]
