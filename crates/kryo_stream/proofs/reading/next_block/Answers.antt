use Rattle.std.proofs.Common.{◌≡◌, ◌<◌, ◌∙◌, ap, sym, subst, arith, length, List, ℕ, Err}
use Rattle.flux_base.specs.lemmas.Counting.{Counts-then}
use Rattle.kryo_stream.specs.declared.fault.StreamFault.TheVariants.{Truncated}
use Rattle.kryo_stream.specs.Pieces.{piece_at}
use Rattle.kryo_stream.specs.inside.Pieces.{IsText}
use Rattle.kryo_stream.specs.inside.Progress.{IsBlockOpen}
use Rattle.kryo_stream.proofs.Pieces.{piece_at-short}
use Rattle.kryo_stream.proofs.Taking.{Took-more}
use Rattle.kryo_stream.proofs.reading.next_block.Goals as goal

pub more-requires : goal.more-requires
more-requires g c =
    let is = rw c.in-Err-Truncated.field-0-is at c.in-Err-Truncated.ensures.value in
    let short : length c.bytes.result.now < 16 = piece_at-short c.args.before.now c.bytes.result.now (sym is)
    (λ size text. c.in-None.ensures.none size (subst (λ y. IsText c.args.before.now.offset y size)
    (c.bytes.ensures.value ∙ sym c.bytes-in-loop-reading.ensures.value) text)) in
    let same : length c.bytes.result.now ≡ length c.loop-reading.intake.held = ap length c.bytes.ensures.value in
    omega (arith, short, same)

pub loop-reading-smaller : goal.loop-reading-smaller
loop-reading-smaller g c =
    let is = rw c.in-Err-Truncated.field-0-is at c.in-Err-Truncated.ensures.value in
    let short : length c.bytes.result.now < 16 = piece_at-short c.args.before.now c.bytes.result.now (sym is)
    (λ size text. c.in-None.ensures.none size (subst (λ y. IsText c.args.before.now.offset y size)
    (c.bytes.ensures.value ∙ sym c.bytes-in-loop-reading.ensures.value) text)) in
    let same : length c.bytes.result.now ≡ length c.loop-reading.intake.held = ap length c.bytes.ensures.value in
    let more = rw c.in-Ok-Taken.field-0-is at c.in-Ok-Taken.ensures.more in
    omega (arith, short, same, more)

pub loop-reading-preserved : goal.loop-reading-preserved
loop-reading-preserved g c =
    let is = rw c.in-Err-Truncated.field-0-is at c.in-Err-Truncated.ensures.value in
    let b = c.args.before.now in
    let untold : IsBlockOpen b c.args.intake.now.held c.loop-reading.invariant.took.taken =
    subst (λ (y : List ℕ). piece_at b.offset b.counted b.ended y ≡ Err Truncated) (c.bytes.ensures.value ∙ c.loop-reading.invariant.took.grown) (sym is) in
    record {
      took = Took-more c.loop-reading.invariant.took c.more.ensures.took untold;
      used = c.more.ensures.used ∙ c.loop-reading.invariant.used;
      counts = Counts-then _ c.loop-reading.invariant.counts c.in-Ok-Taken.ensures.counts;
    }

pub returns-in-Ok-End-clause-took : goal.returns-in-Ok-End-clause-took
returns-in-Ok-End-clause-took g c =
    let is = rw c.in-Err-Truncated.field-0-is at c.in-Err-Truncated.ensures.value in
    let b = c.args.before.now in
    let untold : IsBlockOpen b c.args.intake.now.held c.loop-reading.invariant.took.taken =
    subst (λ (y : List ℕ). piece_at b.offset b.counted b.ended y ≡ Err Truncated) (c.bytes.ensures.value ∙ c.loop-reading.invariant.took.grown) (sym is) in
    Took-more c.loop-reading.invariant.took c.more.ensures.took untold

pub returns-in-Err-clause-took : goal.returns-in-Err-clause-took
returns-in-Err-clause-took g c =
    let is = rw c.in-Err-Truncated.field-0-is at c.in-Err-Truncated.ensures.value in
    let b = c.args.before.now in
    let untold : IsBlockOpen b c.args.intake.now.held c.loop-reading.invariant.took.taken =
    subst (λ (y : List ℕ). piece_at b.offset b.counted b.ended y ≡ Err Truncated) (c.bytes.ensures.value ∙ c.loop-reading.invariant.took.grown) (sym is) in
    Took-more c.loop-reading.invariant.took c.more.ensures.took untold
