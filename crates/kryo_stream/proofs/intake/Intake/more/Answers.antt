use Rattle.std.proofs.Common.{◌-◌, take, drop, ap, ◌∙◌}
use Rattle.kryo_stream.specs.lemmas.Buffers.{grown}
use Rattle.kryo_stream.proofs.Taking.{Takes-read}
use Rattle.kryo_stream.proofs.intake.Intake.more.Goals as goal

pub returns-in-Ok-clause-took : goal.returns-in-Ok-clause-took
returns-in-Ok-clause-took g c = record {
  taken = take c.in-Ok.count (drop (c.self.inside.end - c.self.inside.start) c.take_more-outcome.new.buffer);
  takes = Takes-read _ c.in-Ok.ensures.bytes.0 c.in-Ok.ensures.piece;
  grown = grown _ _ _ _ _ _ (c.take_more-outcome.auto.buffer ∙ c.deref_mut.ensures.len)
      (c.in-Ok.ensures.front ∙ ap (λ xs. take (c.self.inside.end - c.self.inside.start) (drop c.self.inside.start xs)) c.deref_mut.ensures.value
      ∙ ap (λ i. i.held) c.self.view_is);
}
