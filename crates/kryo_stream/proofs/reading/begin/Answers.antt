use Rattle.std.proofs.Common.{◌∙◌, ap, sym, subst, false, Ok}
use Rattle.kryo_stream.specs.declared.intake.More.TheVariants.{Taken}
use Rattle.kryo_stream.specs.inside.Progress.{IsUnpadded}
use Rattle.kryo_stream.specs.Reads.{reads_at}
use Rattle.kryo_stream.proofs.Unpadding.{no_padding}
use Rattle.kryo_stream.proofs.reading.begin.Goals as goal

pub returns-then-not-is_used-clause-unpadded : goal.returns-then-not-is_used-clause-unpadded
returns-then-not-is_used-clause-unpadded g c =
    let now = reads_at g.S.Source c.args.source.now in
    subst (λ used. IsUnpadded now now used c.args.intake.now.held c.begin.new.self.held (Ok Taken))
    (sym (sym c.is_used.ensures.value ∙ c.if-not-is_used.true))
    (subst (λ held. IsUnpadded now now false c.args.intake.now.held held (Ok Taken)) (sym (ap (λ i. i.held) c.begin.ensures))
    (no_padding now c.args.intake.now.held))
