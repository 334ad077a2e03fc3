use Rattle.std.proofs.Common.{arith, length, drop}
use Rattle.std.proofs.lemmas.List.{length-drop}
use Rattle.flux_engine.proofs.HeaderWalks.{data_end, data_start, data_step}
use Rattle.flux_engine.proofs.gathering.note_data.Goals as goal

pub loop-place-init : goal.loop-place-init
loop-place-init g c =
    data_start (g.R.Recording.data_at c.args.recording.now (drop c.args.header.cell c.args.cells.now.cells)) c.args.header.sector c.args.header.place
    (length c.args.cells.now.cells) c.args.from c.args.book.now c.requires.within

pub loop-place-preserved : goal.loop-place-preserved
loop-place-preserved g c =
    let here = g.met.R.Recording.data_inside c.args.recording.now (drop c.args.header.cell c.args.cells.now.cells) c.in-Some.place _ c.in-Some.ensures.1 in
    data_step (g.R.Recording.data_at c.args.recording.now (drop c.args.header.cell c.args.cells.now.cells)) c.args.header.sector c.args.header.place
    (length c.args.cells.now.cells) c.args.from c.loop-place.start c.in-Some.place c.next_data.new.buffer.items c.as_slice.result.now
    c.args.book.now c.loop-place.book c.note_good.new.self c.loop-place.invariant c.in-Some.ensures
    (let size = length-drop c.args.header.cell c.args.cells.now.cells in omega (arith, here, size)) c.as_slice.ensures.value
    c.note_good.ensures.noted c.note_good.ensures.count c.note_good.ensures.shape

pub overflow_add-start : goal.overflow_add-start
overflow_add-start g c =
    let here = g.met.R.Recording.data_inside c.args.recording.now (drop c.args.header.cell c.args.cells.now.cells) c.in-Some.place _ c.in-Some.ensures.1 in
    let size = length-drop c.args.header.cell c.args.cells.now.cells in
    omega (arith, here, size, c.requires.short)

pub returns : goal.returns
returns g c =
    data_end (g.R.Recording.data_at c.args.recording.now (drop c.args.header.cell c.args.cells.now.cells)) c.args.header.sector c.args.header.place
    (length c.args.cells.now.cells) c.args.from c.loop-place.start _ c.args.book.now c.loop-place.book c.loop-place.invariant c.in_default.ensures
