use Rattle.std.proofs.Common.{ap}
use Rattle.kryo_stream.specs.Held.{IntakeState}
use Rattle.kryo_stream.proofs.BlockReadings.{reads_block}
use Rattle.kryo_stream.proofs.reading.pass_block.Goals as goal

pub returns-clause-reading : goal.returns-clause-reading
returns-clause-reading c =
    let reads = rw c.bytes.ensures.value at c.in-Some.ensures.reading in
    reads_block c.args.intake.now.held c.pass.new.self.held c.args.before.now c.behind.result c.args.flux.now.times c.note_time.new.flux.times
    c.args.bench.now c.note_bytes.new.self c.in-Some.piece reads c.in-Some.ensures.in_stream c.in-Some.ensures.sized
    (ap (λ (s : IntakeState). s.held) c.pass.ensures) c.behind.ensures.value c.behind.ensures.within
    c.in_ok-note_time.ensures.times c.in_ok-note_bytes.ensures.notes
