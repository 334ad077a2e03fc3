use Rattle.std.proofs.Common.{◌-◌, drop, length, take, ap, ◌∙◌}
use Rattle.kryo_stream.specs.lemmas.Buffers.{grown}
use Rattle.stream_files.proofs.Refilling.{ends}
use Rattle.stream_files.proofs.ahead.Ahead.refill.Goals as goal

pub returns-in-Ok-clause-took : goal.returns-in-Ok-clause-took
returns-in-Ok-clause-took g c =
    let first = c.self.inside.end - c.self.inside.start in
    let buffer = c.take_behind-outcome.new.buffer in
    let front =
    c.in-Ok.ensures.front ∙ ap (λ xs. take first (drop c.self.inside.start xs)) c.deref_mut.ensures.value ∙ c.self.view_is in
    let is = grown _ _ _ _ _ _ (c.take_behind-outcome.auto.buffer ∙ c.deref_mut.ensures.len) front in (
      take c.in-Ok.count (drop first buffer),
      c.in-Ok.ensures.took.0,
      is,
      ends first c.in-Ok.count buffer _ _ _ (c.take_behind-outcome.auto.buffer ∙ ap length c.deref_mut.ensures.value ∙ c.self.invariant.2) c.in-Ok.ensures.bound front is c.in-Ok.ensures.took.1,
    )
