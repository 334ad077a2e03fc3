use Rattle.std.proofs.Common.{◌≡◌, ◌≤◌, ◌++◌, true, ◌∙◌, ap, sym, subst, arith, length, Ok}
use Rattle.flux_base.specs.lemmas.Counting.{Counts-then}
use Rattle.kryo_stream.specs.declared.intake.More.TheVariants.{Taken}
use Rattle.kryo_stream.specs.Padding.{padding_of}
use Rattle.kryo_stream.specs.inside.Progress.{IsUnpadded}
use Rattle.kryo_stream.specs.Reads.{reads_at}
use Rattle.kryo_stream.proofs.Taking.{Took-more}
use Rattle.kryo_stream.proofs.Unpadding.{padding_open, padding_passed, padding_to_end, padding_to_failure}
use Rattle.kryo_stream.proofs.reading.pass_padding.Goals as goal

pub returns-in-Some-clause-unpadded : goal.returns-in-Some-clause-unpadded
returns-in-Some-clause-unpadded g c =
    subst (λ rest. IsUnpadded (reads_at g.S.Source c.args.source.now) (reads_at g.S.Source c.loop-count.source) true c.args.intake.now.held rest (Ok Taken))
    (sym (ap (λ i. i.held) c.pass.ensures))
    (padding_passed c.in-Some.count c.loop-count.invariant.took
    (λ later. subst (λ y. padding_of (y ++ later) ≡ c.in-Some.count) c.bytes.ensures.value (c.in-Some.ensures.settled later))
    (omega (arith, c.in-Some.ensures.within, ap length c.bytes.ensures.value)))

pub loop-count-preserved : goal.loop-count-preserved
loop-count-preserved g c =
    let untold = padding_open c.args.intake.now.held c.loop-count.invariant.took.taken c.loop-count.intake.held c.loop-count.invariant.took.grown
    (subst (λ y. padding_of y ≡ length y) c.bytes.ensures.value c.in-None.ensures.at_end) in
    record {
      took = Took-more c.loop-count.invariant.took c.more.ensures.took untold;
      used = c.more.ensures.used ∙ c.loop-count.invariant.used;
      counts = Counts-then _ c.loop-count.invariant.counts c.in-Ok-Taken.ensures.counts;
    }

pub returns-in-Ok-End-clause-unpadded : goal.returns-in-Ok-End-clause-unpadded
returns-in-Ok-End-clause-unpadded g c =
    let untold = padding_open c.args.intake.now.held c.loop-count.invariant.took.taken c.loop-count.intake.held c.loop-count.invariant.took.grown
    (subst (λ y. padding_of y ≡ length y) c.bytes.ensures.value c.in-None.ensures.at_end) in
    let more = rw c.in-Ok-End.field-0-is at c.in-Ok-End.ensures.more in
    padding_to_end c.more.new.self.held (Took-more c.loop-count.invariant.took c.more.ensures.took untold)
    (subst (λ y. padding_of y ≡ length y) (c.bytes.ensures.value ∙ sym more.0) c.in-None.ensures.at_end)
    (subst (λ y. length y ≤ 16) (c.bytes.ensures.value ∙ sym more.0) c.in-None.ensures.short) more.1

pub returns-in-Err-clause-unpadded : goal.returns-in-Err-clause-unpadded
returns-in-Err-clause-unpadded g c =
    let untold = padding_open c.args.intake.now.held c.loop-count.invariant.took.taken c.loop-count.intake.held c.loop-count.invariant.took.grown
    (subst (λ y. padding_of y ≡ length y) c.bytes.ensures.value c.in-None.ensures.at_end) in
    padding_to_failure c.more.new.self.held c.in-Err.failed (Took-more c.loop-count.invariant.took c.more.ensures.took untold)
    (subst (λ y. padding_of y ≡ length y) (c.bytes.ensures.value ∙ sym c.in-Err.ensures.kept) c.in-None.ensures.at_end)
    (subst (λ y. length y ≤ 16) (c.bytes.ensures.value ∙ sym c.in-Err.ensures.kept) c.in-None.ensures.short)
