use Rattle.sector_copies.proofs.Walks.{header_end, header_start, header_step}
use Rattle.sector_copies.proofs.walk.note_cells.Goals as goal

pub loop-cell-init : goal.loop-cell-init
loop-cell-init g c =
    header_start (g.R.Recording.header_at c.args.recording.now c.args.track) (g.R.Recording.data_at c.args.recording.now)
    c.args.flux.now.times c.args.flux.now.indexes c.args.cells.now.cells c.args.capture c.args.clock c.args.notes.now

pub loop-cell-preserved : goal.loop-cell-preserved
loop-cell-preserved g c =
    header_step (g.R.Recording.header_at c.args.recording.now c.args.track) (g.R.Recording.data_at c.args.recording.now)
    c.args.flux.now.times c.args.flux.now.indexes c.args.cells.now.cells c.args.capture c.args.clock
    (c.data_are_read.ensures.of_header c.args.recording.now) (c.data_are_read.ensures.of_track c.args.recording.now c.args.track c.args.cells.now.cells)
    (g.met.R.Recording.one_header c.args.recording.now c.args.track)
    c.loop-cell.from c.loop-cell.passed c.in-Some.cell c.ones_between-passed.result c.in-Some.sector c.place_of-place.result
    c.args.notes.now c.loop-cell.notes c.note_if_asked.new.notes c.loop-cell.invariant c.in-Some.ensures.first c.in-Some.ensures.within
    c.ones_between-passed.ensures.walk c.place_of-place.ensures c.requires.cells.few
    c.note_if_asked.ensures.noted c.note_if_asked.ensures.few c.note_if_asked.ensures.same

pub returns-clause-noted : goal.returns-clause-noted
returns-clause-noted g c =
    header_end (g.R.Recording.header_at c.args.recording.now c.args.track) (g.R.Recording.data_at c.args.recording.now)
    c.args.flux.now.times c.args.flux.now.indexes c.args.cells.now.cells c.args.capture c.args.clock
    (c.data_are_read.ensures.of_header c.args.recording.now) (c.data_are_read.ensures.of_track c.args.recording.now c.args.track c.args.cells.now.cells)
    (g.met.R.Recording.one_header c.args.recording.now c.args.track)
    c.loop-cell.from c.loop-cell.passed c.args.notes.now c.loop-cell.notes c.loop-cell.invariant c.in_default.ensures.first
