use Rattle.std.proofs.Common.{◌≡◌, ◌∙◌, ◌++◌, ap, arith, refl, sym, false, true, Ok, length}
use Rattle.flux_base.specs.lemmas.Counting.{Counts-then, Counts-none}
use Rattle.kryo_stream.proofs.Pieces.{piece_at-follows}
use Rattle.kryo_stream.proofs.Answering.{Progress-start, Progress-on, Progress-push, run_memory, taken_for_block, read_refused, read_failed, read_memory, at_end, complete, read_end, not_end, note_finds_room, end_finds_room, end_counts, end_small}
use Rattle.kryo_stream.proofs.Runs.{still_full_room, still_full_bench, keeps_room_both, keeps_bench_both}
use Rattle.kryo_stream.proofs.reading.read_stream.Goals as goal

pub loop-init : goal.loop-init
loop-init g c = record {
  rounds = omega arith;
  bound = c.requires.bound;
  progress = rw (c.start-before.ensures, c.requires.times) (Progress-start _ _ c.clear.new.self c.clear.ensures.empty);
  indexes = c.requires.indexes;
  used = refl;
  room = record { times = omega arith; indexes = omega arith };
  bench = c.clear.ensures.room;
  counts = Counts-none _;
}

pub returns-in-Ok-Err-clause-read : goal.returns-in-Ok-Err-clause-read
returns-in-Ok-Err-clause-read g c =
    let takes = rw c.in-Ok-Err.field-0-is at c.in-Ok-Err.ensures.takes in
    read_refused c.pass_in_stream.new.flux c.in-Ok-Err.fault (Progress-on c.in-Ok.count c.loop.invariant.progress c.in-Ok.ensures.reading) takes

pub returns-in-Err-take_block-clause-read : goal.returns-in-Err-take_block-clause-read
returns-in-Err-take_block-clause-read g c =
    read_failed c.pass_in_stream.new.flux c.in-Err-take_block.field-0 (Progress-on c.in-Ok.count c.loop.invariant.progress c.in-Ok.ensures.reading) c.in-Err-take_block.ensures.takes

pub note-requires-clause-follows : goal.note-requires-clause-follows
note-requires-clause-follows g c =
    let takes = rw c.in-Ok-Ok.field-0-is at c.in-Ok-Ok.ensures.takes in
    (piece_at-follows c.pass_in_stream.new.before (c.pass_in_stream.new.intake.held ++ takes.taken) c.in-Ok-Ok.piece takes.says.0).0

pub returns-in-Err-note-clause-read : goal.returns-in-Err-note-clause-read
returns-in-Err-note-clause-read g c =
    let takes = rw c.in-Ok-Ok.field-0-is at c.in-Ok-Ok.ensures.takes in
    read_memory c.note.new.flux (Ok (Ok c.in-Ok-Ok.piece)) (Progress-on c.in-Ok.count c.loop.invariant.progress c.in-Ok.ensures.reading) takes

pub returns-in-Err-note-clause-memory : goal.returns-in-Err-note-clause-memory
returns-in-Err-note-clause-memory g c = λ full full_bench.
    let takes = rw c.in-Ok-Ok.field-0-is at c.in-Ok-Ok.ensures.takes in
    let bad : false ≡ true = note_finds_room (false ≡ true) c.args.flux.now c.pass_in_stream.new.flux c.args.bench.now c.pass_in_stream.new.bench (Progress-on c.in-Ok.count c.loop.invariant.progress c.in-Ok.ensures.reading) takes
    full (keeps_room_both c.loop.invariant.room c.pass_in_stream.ensures.room) full_bench (keeps_bench_both c.loop.invariant.bench c.pass_in_stream.ensures.bench) c.in-Err-note.ensures.succeeds in cc

pub resolve-requires-clause-complete : goal.resolve-requires-clause-complete
resolve-requires-clause-complete g c =
    let takes = rw c.in-Ok-Ok.field-0-is at c.in-Ok-Ok.ensures.takes in
    complete (at_end c.in-Ok-Ok.piece c.note.new.flux.times (Progress-on c.in-Ok.count c.loop.invariant.progress c.in-Ok.ensures.reading) takes c.in-End.is c.in-Ok-note.ensures.noted c.in-Ok-note.ensures.times)

pub returns-in-End-clause-read : goal.returns-in-End-clause-read
returns-in-End-clause-read g c =
    let takes = rw c.in-Ok-Ok.field-0-is at c.in-Ok-Ok.ensures.takes in
    read_end c.resolve.new.flux c.resolve.result c.note.new.flux.spare_indexes
    (at_end c.in-Ok-Ok.piece c.note.new.flux.times (Progress-on c.in-Ok.count c.loop.invariant.progress c.in-Ok.ensures.reading) takes c.in-End.is c.in-Ok-note.ensures.noted c.in-Ok-note.ensures.times)
    c.in-End.is c.in-Ok-note.ensures.times c.resolve.ensures.times c.resolve.ensures.ok c.resolve.ensures.indexes c.resolve.ensures.cause

pub returns-in-End-clause-memory : goal.returns-in-End-clause-memory
returns-in-End-clause-memory g c = λ full full_bench.
    let takes = rw c.in-Ok-Ok.field-0-is at c.in-Ok-Ok.ensures.takes in
    let none : length c.note.new.flux.indexes ≡ 0 = ap length (c.note.ensures.indexes ∙ c.pass_in_stream.ensures.indexes ∙ c.loop.invariant.indexes) in
    end_finds_room c.resolve.result c.note.new.flux.spare_indexes
    (at_end c.in-Ok-Ok.piece c.note.new.flux.times (Progress-on c.in-Ok.count c.loop.invariant.progress c.in-Ok.ensures.reading) takes c.in-End.is c.in-Ok-note.ensures.noted c.in-Ok-note.ensures.times)
    (omega (arith, none, full.indexes, c.loop.invariant.room.indexes, c.pass_in_stream.ensures.room.indexes, c.note.ensures.room.indexes)) c.resolve.ensures.cause

pub returns-in-End-clause-counts : goal.returns-in-End-clause-counts
returns-in-End-clause-counts g c =
    let takes = rw c.in-Ok-Ok.field-0-is at c.in-Ok-Ok.ensures.takes in
    end_counts c.resolve.result c.note.new.flux.spare_indexes
    (at_end c.in-Ok-Ok.piece c.note.new.flux.times (Progress-on c.in-Ok.count c.loop.invariant.progress c.in-Ok.ensures.reading) takes c.in-End.is c.in-Ok-note.ensures.noted c.in-Ok-note.ensures.times)
    c.resolve.ensures.cause (Counts-then _ c.loop.invariant.counts c.in-Ok-Ok.ensures.counts)

pub returns-in-Err-take_block-clause-counts : goal.returns-in-Err-take_block-clause-counts
returns-in-Err-take_block-clause-counts g c = Counts-then _ c.loop.invariant.counts c.in-Err-take_block.ensures.counts

pub returns-in-End-clause-small : goal.returns-in-End-clause-small
returns-in-End-clause-small g c =
    let takes = rw c.in-Ok-Ok.field-0-is at c.in-Ok-Ok.ensures.takes in
    end_small c.resolve.new.flux c.resolve.result
    (at_end c.in-Ok-Ok.piece c.note.new.flux.times (Progress-on c.in-Ok.count c.loop.invariant.progress c.in-Ok.ensures.reading) takes c.in-End.is c.in-Ok-note.ensures.noted c.in-Ok-note.ensures.times)
    c.resolve.ensures.times c.resolve.ensures.indexes

pub behind-before-requires : goal.behind-before-requires
behind-before-requires g c =
    let takes = rw c.in-Ok-Ok.field-0-is at c.in-Ok-Ok.ensures.takes in record {
      within = (Progress-on c.in-Ok.count c.loop.invariant.progress c.in-Ok.ensures.reading).reading.tally.within;
      follows = (piece_at-follows c.pass_in_stream.new.before (c.pass_in_stream.new.intake.held ++ takes.taken) c.in-Ok-Ok.piece takes.says.0).0;
    }

pub loop-preserved : goal.loop-preserved
loop-preserved g c =
    let takes = rw c.in-Ok-Ok.field-0-is at c.in-Ok-Ok.ensures.takes in record {
      rounds = omega (arith, c.loop.invariant.rounds);
      bound = c.take_block.ensures.bound;
      progress = rw (c.behind-before.ensures.value, c.in-Ok-note.ensures.times)
          (Progress-push c.in-Ok-Ok.piece c.note.new.bench (Progress-on c.in-Ok.count c.loop.invariant.progress c.in-Ok.ensures.reading) takes
          (not_end c.in-Ok-Ok.piece.block c.in_default.not-End) c.behind-before.ensures.within c.in-Ok-note.ensures.noted);
      indexes = c.note.ensures.indexes ∙ c.pass_in_stream.ensures.indexes ∙ c.loop.invariant.indexes;
      used = c.take_block.ensures.used ∙ c.pass_in_stream.ensures.used ∙ c.loop.invariant.used;
      room = keeps_room_both (keeps_room_both c.loop.invariant.room c.pass_in_stream.ensures.room) c.note.ensures.room;
      bench = keeps_bench_both (keeps_bench_both c.loop.invariant.bench c.pass_in_stream.ensures.bench) c.note.ensures.bench;
      counts = Counts-then _ c.loop.invariant.counts c.in-Ok-Ok.ensures.counts;
    }

pub returns-in-Ok-Err-clause-takes : goal.returns-in-Ok-Err-clause-takes
returns-in-Ok-Err-clause-takes g c = taken_for_block (Progress-on c.in-Ok.count c.loop.invariant.progress c.in-Ok.ensures.reading) c.in-Ok-Err.ensures.takes

pub returns-in-Err-take_block-clause-takes : goal.returns-in-Err-take_block-clause-takes
returns-in-Err-take_block-clause-takes g c = taken_for_block (Progress-on c.in-Ok.count c.loop.invariant.progress c.in-Ok.ensures.reading) c.in-Err-take_block.ensures.takes

pub returns-in-Err-note-clause-takes : goal.returns-in-Err-note-clause-takes
returns-in-Err-note-clause-takes g c = taken_for_block (Progress-on c.in-Ok.count c.loop.invariant.progress c.in-Ok.ensures.reading) c.take_block.ensures.takes

pub returns-in-End-clause-takes : goal.returns-in-End-clause-takes
returns-in-End-clause-takes g c = taken_for_block (Progress-on c.in-Ok.count c.loop.invariant.progress c.in-Ok.ensures.reading) c.take_block.ensures.takes

pub pass_in_stream-requires : goal.pass_in_stream-requires
pass_in_stream-requires g c =
    let progress = c.loop.invariant.progress in record { read = (c.args.intake.now.held ++ progress.taken, c.loop.number, progress.reading) }

pub returns-in-Err-clause-takes : goal.returns-in-Err-clause-takes
returns-in-Err-clause-takes g c = let progress = c.loop.invariant.progress in (progress.taken, progress.takes)

pub returns-in-Err-clause-read : goal.returns-in-Err-clause-read
returns-in-Err-clause-read g c = run_memory c.pass_in_stream.new.flux c.loop.invariant.progress c.loop.invariant.bound

pub returns-in-Err-clause-memory : goal.returns-in-Err-clause-memory
returns-in-Err-clause-memory g c = λ full full_bench.
    let bad : false ≡ true = c.in-Err.ensures.succeeds (still_full_room full c.loop.invariant.room) (still_full_bench full_bench c.loop.invariant.bench) in cc

pub overflow_add-number : goal.overflow_add-number
overflow_add-number g c =
    let reading = c.in-Ok.ensures.reading _ _ c.loop.invariant.progress.reading in omega (arith, reading.count, reading.tally.within.offset)

pub unreachable-requires : goal.unreachable-requires
unreachable-requires g c =
    let reading = c.loop.invariant.progress.reading in omega (arith, c.loop.invariant.rounds, c.loop-test.false, reading.count, reading.tally.within.offset)

pub note-requires-clause-counted : goal.note-requires-clause-counted
note-requires-clause-counted g c =
    let reading = c.in-Ok.ensures.reading _ _ c.loop.invariant.progress.reading in reading.noted.counted ∙ sym reading.tally.counted

pub note-requires-clause-within : goal.note-requires-clause-within
note-requires-clause-within g c =
    let reading = c.in-Ok.ensures.reading _ _ c.loop.invariant.progress.reading in reading.tally.within

pub note-requires-clause-times : goal.note-requires-clause-times
note-requires-clause-times g c =
    let reading = c.in-Ok.ensures.reading _ _ c.loop.invariant.progress.reading in reading.tally.in_order
