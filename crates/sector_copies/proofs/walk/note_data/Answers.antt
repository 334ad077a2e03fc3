use Rattle.std.proofs.Common.{arith, length, drop}
use Rattle.std.proofs.lemmas.List.{length-drop}
use Rattle.sector_copies.proofs.Walks.{data_end, data_start, data_step}
use Rattle.sector_copies.proofs.walk.note_data.Goals as goal

pub loop-begin-init : goal.loop-begin-init
loop-begin-init g c =
    data_start (g.R.Recording.data_at c.args.recording.now (drop c.args.cell c.args.cells.now.cells)) c.args.place (length c.args.cells.now.cells)
    c.args.from c.args.notes.now c.requires.within

pub loop-begin-preserved : goal.loop-begin-preserved
loop-begin-preserved g c =
    let At = g.R.Recording.data_at c.args.recording.now (drop c.args.cell c.args.cells.now.cells) in
    let here = g.met.R.Recording.data_inside c.args.recording.now (drop c.args.cell c.args.cells.now.cells) c.in-Some.begin _ c.in-Some.ensures.1 in
    data_step At c.args.place (length c.args.cells.now.cells) (g.met.R.Recording.data_is_one c.args.recording.now (drop c.args.cell c.args.cells.now.cells))
    c.args.from c.loop-begin.start c.in-Some.begin c.next_data.new.buffer.items c.as_slice.result.now
    c.args.notes.now c.loop-begin.notes c.note_good.new.self c.loop-begin.invariant c.in-Some.ensures
    (let size = length-drop c.args.cell c.args.cells.now.cells in omega (arith, here, size)) c.as_slice.ensures.value
    c.note_good.ensures.noted c.note_good.ensures.count c.note_good.ensures.same

pub overflow_add-start : goal.overflow_add-start
overflow_add-start g c =
    let here = g.met.R.Recording.data_inside c.args.recording.now (drop c.args.cell c.args.cells.now.cells) c.in-Some.begin _ c.in-Some.ensures.1 in
    let size = length-drop c.args.cell c.args.cells.now.cells in
    omega (arith, here, size, c.requires.short)

pub returns-clause-noted : goal.returns-clause-noted
returns-clause-noted g c =
    data_end (g.R.Recording.data_at c.args.recording.now (drop c.args.cell c.args.cells.now.cells)) c.args.place (length c.args.cells.now.cells)
    c.args.from c.loop-begin.start _ c.args.notes.now c.loop-begin.notes c.loop-begin.invariant c.in_default.ensures
