use Rattle.std.proofs.Common.{refl}
use Rattle.g64_image.proofs.Walks.{walk_end, walk_past, walk_step}
use Rattle.g64_image.proofs.track.gather.Goals as goal

pub returns-then-cell-end : goal.returns-then-cell-end
returns-then-cell-end g c =
    walk_past (g.R.Recording.header_at c.args.recording.now c.args.track) (g.R.Recording.sector_at c.args.recording.now c.args.track)
    c.args.cells.now.cells c.args.end c.loop-cell.from c.in-Some.cell c.in-Some.reading c.next_reading.new.buffer.items c.args.book.now c.loop-cell.book
    c.loop-cell.invariant c.in-Some.ensures.first c.if-cell-end.true

pub loop-cell-preserved : goal.loop-cell-preserved
loop-cell-preserved g c =
    walk_step (g.R.Recording.header_at c.args.recording.now c.args.track) (g.R.Recording.sector_at c.args.recording.now c.args.track)
    c.args.cells.now.cells c.args.end
    c.loop-cell.from c.in-Some.cell c.in-Some.reading c.next_reading.new.buffer.items c.as_slice.result.now
    _ c.args.book.now c.loop-cell.book c.note_reading.new.book
    c.loop-cell.invariant c.in-Some.ensures.first c.if-cell-end.false refl c.as_slice.ensures.value c.note_reading.ensures.noted c.note_reading.ensures.count c.note_reading.ensures.shape

pub returns : goal.returns
returns g c =
    walk_end (g.R.Recording.header_at c.args.recording.now c.args.track) (g.R.Recording.sector_at c.args.recording.now c.args.track)
    c.args.cells.now.cells c.args.end c.loop-cell.from c.next_reading.new.buffer.items c.args.book.now c.loop-cell.book
    c.loop-cell.invariant c.in_default.ensures.first
