use Rattle.flux_engine.proofs.shared_stream.SharedStream.take.Goals as goal

pub invariant_of-self : goal.invariant_of-self
invariant_of-self g c = (c.stream_of-self-inside.ensures.bounded, c.forget.ensures c.self.inside.stream.flux.times c.stream_of-self-inside.new.stream.flux.times c.self.invariant.1)
