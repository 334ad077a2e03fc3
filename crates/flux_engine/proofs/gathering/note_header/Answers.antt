use Rattle.std.proofs.Common.{drop, length}
use Rattle.flux_engine.proofs.HeaderWalks.{some_data}
use Rattle.flux_engine.proofs.gathering.note_header.Goals as goal

pub returns : goal.returns
returns g c =
    some_data (g.R.Recording.data_at c.args.recording.now (drop c.args.header.cell c.args.cells.now.cells)) c.args.header.sector c.args.header.place
    (length c.args.cells.now.cells) c.in-Some.first c.next_data.new.buffer.items c.as_slice.result.now
    c.args.book.now c.note_good.new.self c.note_data.new.book c.in-Some.ensures c.as_slice.ensures.value
    c.note_good.ensures.noted c.note_good.ensures.count c.note_good.ensures.shape c.note_data.ensures
