use Rattle.std.proofs.Common.{◌∙◌, drop, ap, sym, subst}
use Rattle.index_turns.specs.Track.{TrackState}
use Rattle.kryo_stream.specs.Bench.{KeepsNotes}
use Rattle.kryo_stream.specs.Held.{IntakeState}
use Rattle.kryo_stream.proofs.Keepings.{reading_of_front, passes_flux}
use Rattle.kryo_stream.proofs.reading.pass_flux.Goals as goal

pub keep_flux-kept-requires-clause-read : goal.keep_flux-kept-requires-clause-read
keep_flux-kept-requires-clause-read c =
    let read = c.requires.read in
    let times = ap (λ (t : TrackState). t.times) c.take.ensures.value ∙ c.reserve_times.ensures.times in
    let notes = subst (KeepsNotes c.args.bench.now) (sym c.take-2.ensures) c.reserve_bytes.ensures.kept in
    rw c.bytes-2.ensures.value (read.0, read.1, drop c.flux_reach-reach.result c.args.intake.now.held, reading_of_front c.flux_reach-reach.result read.2 times notes)

pub returns-clause-reading : goal.returns-clause-reading
returns-clause-reading c =
    let times = ap (λ (t : TrackState). t.times) c.take.ensures.value ∙ c.reserve_times.ensures.times in
    let notes = subst (KeepsNotes c.args.bench.now) (sym c.take-2.ensures) c.reserve_bytes.ensures.kept in
    let kept = rw c.bytes-2.ensures.value at c.keep_flux-kept.ensures in
    rw (c.times.ensures.value, c.times-first.ensures.value, c.reserve_times.ensures.times)
    (passes_flux c.flux_reach-reach.result kept times notes (ap (λ (s : IntakeState). s.held) c.pass.ensures))
