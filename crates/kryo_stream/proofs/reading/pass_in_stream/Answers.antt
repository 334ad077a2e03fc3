use Rattle.std.proofs.Common.{◌≡◌, ◌∙◌, ◌+◌, arith, refl, sym, false, true}
use Rattle.kryo_stream.proofs.Runs.{is_roomy, reads_none, reads_on_both, still_full_room, still_full_bench, keeps_room_both, keeps_bench_both}
use Rattle.kryo_stream.proofs.reading.pass_in_stream.Goals as goal

pub loop-count-init : goal.loop-count-init
loop-count-init c = record {
  reading = reads_none c.args.intake.now.held c.args.before.now c.args.flux.now.times c.args.bench.now;
  used = refl;
  indexes = refl;
  room = record { times = omega arith; indexes = omega arith };
  bench = record { for_ends = omega arith; for_overflows = omega arith; for_indexes = omega arith };
}

pub pass_flux-requires-clause-counted : goal.pass_flux-requires-clause-counted
pass_flux-requires-clause-counted c =
    let read = c.requires.read in
    let reading = c.loop-count.invariant.reading read.0 read.1 read.2 in reading.noted.counted ∙ sym reading.tally.counted

pub pass_block-requires-clause-counted : goal.pass_block-requires-clause-counted
pass_block-requires-clause-counted c =
    let read = c.requires.read in
    let reading = c.in_ok-count.ensures.reading read.0 (read.1 + c.loop-count.count) (c.loop-count.invariant.reading read.0 read.1 read.2) in
    reading.noted.counted ∙ sym reading.tally.counted

pub returns-in_err-count-clause-succeeds : goal.returns-in_err-count-clause-succeeds
returns-in_err-count-clause-succeeds c = λ full full_bench.
    let read = c.requires.read in
    let invariant = c.loop-count.invariant in
    let roomy = is_roomy read.0 (read.1 + c.loop-count.count) c.loop-count.intake.held c.loop-count.before c.loop-count.flux.times c.loop-count.bench
    (invariant.reading read.0 read.1 read.2) in
    let bad : false ≡ true = c.in_err-count.ensures.succeeds roomy.few_times (still_full_room full invariant.room)
    (still_full_bench full_bench invariant.bench) in cc

pub returns-in_err-more-clause-succeeds : goal.returns-in_err-more-clause-succeeds
returns-in_err-more-clause-succeeds c = λ full full_bench.
    let read = c.requires.read in
    let invariant = c.loop-count.invariant in
    let roomy = is_roomy read.0 (read.1 + c.loop-count.count + c.in_ok-count.field-0) c.pass_flux.new.intake.held c.pass_flux.new.before c.pass_flux.new.flux.times c.pass_flux.new.bench
    (c.in_ok-count.ensures.reading read.0 (read.1 + c.loop-count.count) (invariant.reading read.0 read.1 read.2)) in
    let bad : false ≡ true = c.in_err-more.ensures.succeeds roomy.few_times (still_full_room full (keeps_room_both invariant.room c.pass_flux.ensures.room)) roomy.few_overflows
    (still_full_bench full_bench (keeps_bench_both invariant.bench c.pass_flux.ensures.bench)) in cc

pub returns-then-more-eq0-clause-reading : goal.returns-then-more-eq0-clause-reading
returns-then-more-eq0-clause-reading c =
    reads_on_both (c.loop-count.count + c.in_ok-count.field-0) c.in_ok-more.more (c.loop-count.count + c.in_ok-count.field-0)
    (reads_on_both c.loop-count.count c.in_ok-count.field-0 (c.loop-count.count + c.in_ok-count.field-0) c.loop-count.invariant.reading c.in_ok-count.ensures.reading refl)
    c.in_ok-more.ensures.reading (omega (arith, c.if-more-eq0.true))

pub loop-count-preserved : goal.loop-count-preserved
loop-count-preserved c =
    let invariant = c.loop-count.invariant in record {
      reading = reads_on_both (c.loop-count.count + c.in_ok-count.field-0) c.in_ok-more.more (c.loop-count.count + c.in_ok-count.field-0 + c.in_ok-more.more)
          (reads_on_both c.loop-count.count c.in_ok-count.field-0 (c.loop-count.count + c.in_ok-count.field-0) invariant.reading c.in_ok-count.ensures.reading refl)
          c.in_ok-more.ensures.reading refl;
      used = c.pass_block.ensures.used ∙ c.pass_flux.ensures.used ∙ invariant.used;
      indexes = c.pass_block.ensures.indexes ∙ c.pass_flux.ensures.indexes ∙ invariant.indexes;
      room = keeps_room_both (keeps_room_both invariant.room c.pass_flux.ensures.room) c.pass_block.ensures.room;
      bench = keeps_bench_both (keeps_bench_both invariant.bench c.pass_flux.ensures.bench) c.pass_block.ensures.bench;
    }
