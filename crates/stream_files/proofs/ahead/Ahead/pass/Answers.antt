use Rattle.std.proofs.Common.{◌≤◌, length, subst, sym}
use Rattle.kryo_stream.specs.lemmas.Buffers.{passed}
use Rattle.stream_files.proofs.ahead.Ahead.pass.Goals as goal

pub returns : goal.returns
returns c =
    rw (← c.self.view_is) (passed c.self.inside.start c.self.inside.end c.args.count c.self.inside.buffer.items c.self.invariant.0 c.self.invariant.1
    (subst (λ s. c.args.count ≤ length s) (sym c.self.view_is) c.requires))
