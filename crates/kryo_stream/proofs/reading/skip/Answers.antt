use Rattle.std.proofs.Common.{◌≡◌, ◌<◌, ◌∙◌, ap, arith, length, length-drop}
use Rattle.flux_base.specs.lemmas.Counting.{Counts-then}
use Rattle.kryo_stream.proofs.Skipping.{IsPassing-rest, skipped_to_end, skipped_to_failure}
use Rattle.kryo_stream.proofs.reading.skip.Goals as goal

pub loop-rest-preserved : goal.loop-rest-preserved
loop-rest-preserved g c =
    let less : c.min-here.result < c.loop-rest.rest = omega (arith, c.if-rest-eq0.false) in
    let all : c.min-here.result ≡ length c.loop-rest.intake.held = omega (arith, ap length c.bytes.ensures.value, less) in
    let passing = IsPassing-rest c.loop-rest.rest c.loop-rest.invariant.within c.loop-rest.invariant.passing all less (ap (λ i. i.held) c.pass.ensures) c.more.ensures.took in
    record {
      passing = passing;
      within = omega (arith, c.loop-rest.invariant.within);
      used = c.more.ensures.used ∙ ap (λ i. i.used) c.pass.ensures ∙ c.loop-rest.invariant.used;
      counts = Counts-then _ c.loop-rest.invariant.counts c.in-Ok-Taken.ensures.counts;
    }

pub returns-in-Ok-End-clause-skipped : goal.returns-in-Ok-End-clause-skipped
returns-in-Ok-End-clause-skipped g c =
    let less : c.min-here.result < c.loop-rest.rest = omega (arith, c.if-rest-eq0.false) in
    let all : c.min-here.result ≡ length c.loop-rest.intake.held = omega (arith, ap length c.bytes.ensures.value, less) in
    let passing = IsPassing-rest c.loop-rest.rest c.loop-rest.invariant.within c.loop-rest.invariant.passing all less (ap (λ i. i.held) c.pass.ensures) c.more.ensures.took in
    let more = rw c.in-Ok-End.field-0-is at c.in-Ok-End.ensures.more in
    let nothing : length c.more.new.self.held ≡ 0 =
    omega (arith, all, ap length more.0, ap length (ap (λ i. i.held) c.pass.ensures), length-drop c.min-here.result c.loop-rest.intake.held) in
    skipped_to_end passing nothing (omega (arith, c.loop-rest.invariant.within, less)) more.1

pub returns-in-Err-clause-skipped : goal.returns-in-Err-clause-skipped
returns-in-Err-clause-skipped g c =
    let less : c.min-here.result < c.loop-rest.rest = omega (arith, c.if-rest-eq0.false) in
    let all : c.min-here.result ≡ length c.loop-rest.intake.held = omega (arith, ap length c.bytes.ensures.value, less) in
    let passing = IsPassing-rest c.loop-rest.rest c.loop-rest.invariant.within c.loop-rest.invariant.passing all less (ap (λ i. i.held) c.pass.ensures) c.more.ensures.took in
    let nothing : length c.more.new.self.held ≡ 0 =
    omega (arith, all, ap length c.in-Err.ensures.kept, ap length (ap (λ i. i.held) c.pass.ensures), length-drop c.min-here.result c.loop-rest.intake.held) in
    skipped_to_failure c.in-Err.failed passing nothing (omega (arith, c.loop-rest.invariant.within, less))
