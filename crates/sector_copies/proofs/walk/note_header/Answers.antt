use Rattle.std.proofs.Common.{drop, length}
use Rattle.sector_copies.proofs.Walks.{some_data}
use Rattle.sector_copies.proofs.walk.note_header.Goals as goal

pub returns-clause-noted : goal.returns-clause-noted
returns-clause-noted g c =
    some_data (g.R.Recording.data_at c.args.recording.now (drop c.args.cell c.args.cells.now.cells)) c.args.place (length c.args.cells.now.cells)
    (g.met.R.Recording.data_is_one c.args.recording.now (drop c.args.cell c.args.cells.now.cells))
    c.in-Some.first c.next_data.new.buffer.items c.as_slice.result.now c.args.notes.now c.note_good.new.self c.note_data.new.notes c.in-Some.ensures
    c.as_slice.ensures.value c.note_good.ensures.noted c.note_good.ensures.same c.note_data.ensures.noted
