use Rattle.std.proofs.Common.{◌∷◌, ap, arith, drop, length}
use Rattle.std.proofs.lemmas.List.{length-drop}
use Rattle.ibm_walks.specs.Headers.{HoldAt}
use Rattle.ibm_walks.proofs.Walks.{data_end, data_start, data_step, first_marked}
use Rattle.ibm_walks.proofs.walk.note_held.Goals as goal

pub loop-behind-init : goal.loop-behind-init
loop-behind-init g c =
    data_start (HoldAt (g.R.Recording.data_at c.args.recording.now (drop c.args.place c.args.cells.now.cells)) c.args.density (drop c.args.place c.args.cells.now.cells))
    c.args.name c.args.book.now

pub loop-behind-preserved : goal.loop-behind-preserved
loop-behind-preserved g c =
    let Stand = g.R.Recording.data_at c.args.recording.now (drop c.args.place c.args.cells.now.cells) in
    data_step (HoldAt Stand c.args.density (drop c.args.place c.args.cells.now.cells)) c.args.name c.loop-behind.from c.in-Some.behind (c.mark_at.result ∷ c.as_slice.result.now)
    c.args.book.now c.loop-behind.book c.note_one.new.book c.loop-behind.invariant
    (first_marked Stand c.args.density (drop c.args.place c.args.cells.now.cells) c.new-frame.result c.loop-behind.from c.in-Some.behind c.mark_at.result _ c.as_slice.result.now
    c.new-frame.ensures c.in-Some.ensures c.mark_at.ensures c.as_slice.ensures.value)
    c.note_one.ensures

pub mark_at-requires-clause-near : goal.mark_at-requires-clause-near
mark_at-requires-clause-near g c =
    let whole = c.requires.marks c.in-Some.behind _ c.in-Some.ensures.1 in
    let size = length-drop c.args.place c.args.cells.now.cells in
    omega (arith, whole, size, c.requires.few)

pub mark_at-requires-clause-whole : goal.mark_at-requires-clause-whole
mark_at-requires-clause-whole g c =
    let whole = c.requires.marks c.in-Some.behind _ c.in-Some.ensures.1 in
    let same = ap length c.new-frame.ensures in
    omega (arith, whole, same)

pub note_one-requires : goal.note_one-requires
note_one-requires g c =
    let size = g.met.R.Recording.data_size c.args.recording.now (drop c.args.place c.args.cells.now.cells) c.in-Some.behind _ c.in-Some.ensures.1 in
    let part = ap length c.as_slice.ensures.value in
    omega (arith, size, part, c.requires.small)

pub overflow_add-from : goal.overflow_add-from
overflow_add-from g c =
    let whole = c.requires.marks c.in-Some.behind _ c.in-Some.ensures.1 in
    let size = length-drop c.args.place c.args.cells.now.cells in
    omega (arith, whole, size, c.requires.few)

pub returns : goal.returns
returns g c =
    data_end (HoldAt (g.R.Recording.data_at c.args.recording.now (drop c.args.place c.args.cells.now.cells)) c.args.density (drop c.args.place c.args.cells.now.cells))
    c.args.name c.loop-behind.from c.args.book.now c.loop-behind.book c.loop-behind.invariant
    (λ place held above there. c.in_default.ensures.1 place there.bytes above there.stand)
