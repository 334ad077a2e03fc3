use Rattle.std.proofs.lemmas.Result.{on_ok_weaker}
use Rattle.kryo_stream.proofs.BenchLemmas.{noted_bytes, noted_index, room_for_bytes, some_bytes, spare_for_index, spare_for_overflow}
use Rattle.kryo_stream.proofs.bench.StreamBench.note.Goals as goal

pub returns-in-Index-clause-noted : goal.returns-in-Index-clause-noted
returns-in-Index-clause-noted c =
    on_ok_weaker c.push_index.result (λ indexes ps noted number. noted_index ps _ _ _ _ _ _ _ c.in-Index.is
    c.requires.size number indexes c.push_index.ensures.counted c.push_index.ensures.ends c.push_index.ensures.overflows noted)
    c.push_index.ensures.indexes

pub returns-in-Index-clause-succeeds : goal.returns-in-Index-clause-succeeds
returns-in-Index-clause-succeeds c = λ full ps noted fits.
    let size = rw c.in-Index.is at c.requires.size in
    c.push_index.ensures.succeeds (spare_for_index ps _ c.args.piece.bytes full noted fits size.0)

pub returns-in_default-clause-noted : goal.returns-in_default-clause-noted
returns-in_default-clause-noted c =
    on_ok_weaker c.note_bytes.result (λ notes ps noted number. noted_bytes ps _ _ _ c.in_default.not-Index c.requires.size notes noted)
    c.note_bytes.ensures.notes

pub returns-in_default-clause-succeeds : goal.returns-in_default-clause-succeeds
returns-in_default-clause-succeeds c = λ full ps noted fits.
    c.note_bytes.ensures.succeeds (room_for_bytes ps _ c.args.piece.bytes full noted fits)
    (spare_for_overflow ps _ c.args.piece.bytes full noted fits (some_bytes c.args.piece.block c.args.piece.bytes c.requires.size))
