use Rattle.std.proofs.Common.{arith}
use Rattle.kryo_stream.proofs.Keepings.{keeps_start, keeps_roomy, keeps_row, keeps_long, part_length}
use Rattle.kryo_stream.proofs.kept.keep_flux.Goals as goal

pub loop-kept-init : goal.loop-kept-init
loop-kept-init c = keeps_start c.args.bytes.now c.args.before.now c.args.flux c.args.bench c.requires.room c.requires.bench

pub keep_row-requires-clause-order : goal.keep_row-requires-clause-order
keep_row-requires-clause-order c = (keeps_roomy c.requires.read.2 c.requires.read.3 c.loop-kept.invariant).in_order

pub keep_row-requires-clause-within : goal.keep_row-requires-clause-within
keep_row-requires-clause-within c =
    let roomy = keeps_roomy c.requires.read.2 c.requires.read.3 c.loop-kept.invariant in
    omega (arith, roomy.within.time, roomy.within.offset)

pub keep_row-requires-clause-end : goal.keep_row-requires-clause-end
keep_row-requires-clause-end c =
    let roomy = keeps_roomy c.requires.read.2 c.requires.read.3 c.loop-kept.invariant in
    omega (arith, roomy.counted, roomy.within.counted, roomy.within.offset)

pub keep_row-requires-clause-place : goal.keep_row-requires-clause-place
keep_row-requires-clause-place c = omega (arith, c.loop-kept.invariant.inside, c.requires.limit)

pub keep_row-requires-clause-room : goal.keep_row-requires-clause-room
keep_row-requires-clause-room c =
    let kept = c.loop-kept.invariant in
    omega (arith, kept.spare, kept.inside, part_length c.args.bytes.now c.loop-kept.kept.place)

pub keep_row-requires-clause-bench : goal.keep_row-requires-clause-bench
keep_row-requires-clause-bench c =
    let kept = c.loop-kept.invariant in
    omega (arith, kept.spare_ends, kept.inside, part_length c.args.bytes.now c.loop-kept.kept.place)

pub loop-kept-preserved-in-14-to-255 : goal.loop-kept-preserved-in-14-to-255
loop-kept-preserved-in-14-to-255 c =
    keeps_row c.short_row.result c.loop-kept.invariant c.requires.going c.requires.limit c.short_row.ensures.inside c.short_row.ensures.short
    c.keep_row.ensures.flux c.keep_row.ensures.bench c.keep_row.ensures.place c.keep_row.ensures.time

pub keep_long-requires-clause-order : goal.keep_long-requires-clause-order
keep_long-requires-clause-order c = (keeps_roomy c.requires.read.2 c.requires.read.3 c.loop-kept.invariant).in_order

pub keep_long-requires-clause-within : goal.keep_long-requires-clause-within
keep_long-requires-clause-within c =
    let roomy = keeps_roomy c.requires.read.2 c.requires.read.3 c.loop-kept.invariant in
    omega (arith, roomy.within.time, roomy.within.offset, c.in-Some.ensures.sized)

pub keep_long-requires-clause-end : goal.keep_long-requires-clause-end
keep_long-requires-clause-end c =
    let roomy = keeps_roomy c.requires.read.2 c.requires.read.3 c.loop-kept.invariant in
    omega (
      arith,
      roomy.counted,
      roomy.within.counted,
      roomy.within.offset,
      c.in-Some.ensures.inside,
      part_length c.args.bytes.now c.loop-kept.kept.place,
      c.requires.limit,
    )

pub keep_long-requires-clause-place : goal.keep_long-requires-clause-place
keep_long-requires-clause-place c = omega (arith, c.loop-kept.invariant.inside, c.requires.limit)

pub keep_long-requires-clause-bench : goal.keep_long-requires-clause-bench
keep_long-requires-clause-bench c =
    let kept = c.loop-kept.invariant in
    omega (
      arith,
      kept.spare_ends,
      kept.inside,
      c.in-Some.ensures.inside,
      part_length c.args.bytes.now c.loop-kept.kept.place,
    )

pub loop-kept-preserved : goal.loop-kept-preserved
loop-kept-preserved c =
    keeps_long c.in-Some.long c.loop-kept.invariant c.requires.going c.requires.limit c.in-Some.ensures.reading c.in-Some.ensures.some
    c.in-Some.ensures.inside c.in-Some.ensures.sized c.keep_long.ensures.flux c.keep_long.ensures.bench c.keep_long.ensures.place c.keep_long.ensures.time
