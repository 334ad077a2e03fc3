use Rattle.flux_engine.proofs.Walks.{read_end, read_step}
use Rattle.flux_engine.proofs.gathering.gather.Goals as goal

pub loop-cell-preserved : goal.loop-cell-preserved
loop-cell-preserved g c =
    read_step (g.R.Recording.header_at c.args.recording.now c.args.track) (g.R.Recording.sector_at c.args.recording.now c.args.track)
    c.args.flux.now.times c.args.flux.now.indexes c.args.cells.now.cells c.args.capture c.args.clock
    c.loop-cell.from c.loop-cell.passed c.in-Some.cell c.ones_between-passed.result c.in-Some.reading c.next_reading.new.buffer.items c.as_slice.result.now
    c.place_of.result c.args.book.now c.loop-cell.book c.note_reading.new.book
    c.loop-cell.invariant c.in-Some.ensures.first c.in-Some.ensures.within c.ones_between-passed.ensures.walk
    c.place_of.ensures c.as_slice.ensures.value c.note_reading.ensures.noted c.note_reading.ensures.count c.note_reading.ensures.shape

pub returns : goal.returns
returns g c =
    read_end (g.R.Recording.header_at c.args.recording.now c.args.track) (g.R.Recording.sector_at c.args.recording.now c.args.track)
    c.args.flux.now.times c.args.flux.now.indexes c.args.cells.now.cells c.args.capture c.args.clock
    c.loop-cell.from c.loop-cell.passed c.next_reading.new.buffer.items c.args.book.now c.loop-cell.book
    c.loop-cell.invariant c.in_default.ensures.first c.requires.cells.few
