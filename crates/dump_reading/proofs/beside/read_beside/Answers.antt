use Rattle.std.proofs.Common.{◌≡◌, ◌+◌, ◌/◌, ◌%◌, ◌<◌, is_some, Ok, Err, length, arith, refl, sym, ap, ◌∙◌}
use Rattle.flux_base.specs.declared.track.TrackId.{TrackId as Id}
use Rattle.flux_base.specs.lemmas.Counting.{Counts-none, Counts-then}
use Rattle.flux_base.specs.World.{sink_at, sink_counts}
use Rattle.sector_images.specs.Places.{tracks}
use Rattle.dump_reading.specs.Beside.{beside_at, beside_tracks}
use Rattle.dump_reading.specs.Files.{shelf_at}
use Rattle.dump_reading.specs.inside.Looks.{untold}
use Rattle.dump_reading.specs.Outcomes.{disk_by}
use Rattle.dump_reading.proofs.BesideSteps.{all-asked, at-place, below-more, looked-into, looked-first, looked-next, none-asked, none-here, one-here}
use Rattle.dump_reading.specs.lemmas.NamedTracks.{cylinders-few}
use Rattle.dump_reading.proofs.TrackNumbers.{beside-next, beside-same, beside_before, tracks-few}
use Rattle.dump_reading.proofs.beside.read_beside.Goals as goal
use Rattle.dump_reading.proofs.beside.read_beside.Goals.{then-is_none+in-Ok, else-is_none}

pub returns-then-not-wants-clause-ok : goal.returns-then-not-wants-clause-ok
returns-then-not-wants-clause-ok g c =
    none-asked (g.B.BesideWriter.lines_of c.args.writer.now) (disk_by c.args.clocks c.args.looks c.args.dumps.now c.args.room.now.format) c.args.sectors.now
    (shelf_at g.H.Source g.H.Shelf c.args.shelf.now)
    c.args.room.now (g.N.Sink.written c.args.notes.now) (sym c.if-not-wants.ensures)

pub returns-then-not-wants-clause-second : goal.returns-then-not-wants-clause-second
returns-then-not-wants-clause-second g c = λ sound. (
  sound,
  refl,
  none-asked (g.B.BesideWriter.second_lines_of c.args.writer.now) (disk_by c.args.clocks c.args.looks c.args.dumps.now c.args.room.now.format) c.args.sectors.now
      (shelf_at g.H.Source g.H.Shelf c.args.shelf.now)
      c.args.room.now (g.D.SecondSinks.now c.args.second.now).notes (sym c.if-not-wants.ensures),
)

pub loop-number-init : goal.loop-number-init
loop-number-init g c = record {
  looked = looked-first (g.B.BesideWriter.lines_of c.args.writer.now) (disk_by c.args.clocks c.args.looks c.args.dumps.now c.args.room.now.format)
      (shelf_at g.H.Source g.H.Shelf c.args.shelf.now)
      c.args.room.now (g.N.Sink.written c.args.notes.now);
  second = λ sound. (
    sound,
    refl,
    looked-first (g.B.BesideWriter.second_lines_of c.args.writer.now) (disk_by c.args.clocks c.args.looks c.args.dumps.now c.args.room.now.format)
        (shelf_at g.H.Source g.H.Shelf c.args.shelf.now)
        c.args.room.now (g.D.SecondSinks.now c.args.second.now).notes,
  );
  format = refl;
  below = below-more c.args.room.now (length (tracks c.args.room.now.format)) (length (tracks c.args.room.now.format) + 0) (omega arith) c.requires.below;
  counts = Counts-none (sink_counts g.N.Sink c.args.notes.now);
}

pub read_one-requires-clause-below : goal.read_one-requires-clause-below
read_one-requires-clause-below g c =
    let few = tracks-few c.args.room.now.format c.tracks_keep_bounds.ensures.bounds (c.tracks_keep_bounds.ensures.some c.args.room.now.format) in
    let most = cylinders-few c.args.dumps.now.stepping in
    below-more c.loop-number.room (length (tracks c.args.room.now.format) + c.loop-number.number) 1000
    (omega (arith, few, most, c.most_cylinders-number-end.ensures, c.loop-number-test.true)) c.loop-number.invariant.below

pub returns-in-Err-clause-err : goal.returns-in-Err-clause-err
returns-in-Err-clause-err g c =
    let h = c.loop-number.invariant.looked.0 in
    let stepping = c.args.dumps.now.stepping in
    let format = c.args.room.now.format in
    let here : Id = (record { cylinder = c.loop-number.number / 2; head = c.loop-number.number % 2 }) in
    let none = none-here format c.room_format.result here (is_some c.number_of.result) c.number_of.ensures.is (c.room_format.ensures ∙ c.loop-number.invariant.format) c.if-is_none.ensures in
    let next = beside-next stepping format c.loop-number.number (omega (arith, c.most_cylinders-number-end.ensures, c.loop-number-test.true)) none in
    let low : length h.beside.others < length (beside_tracks stepping format) = omega (arith, c.loop-number.invariant.looked.1, next.0) in
    let place : beside_at stepping format (length h.beside.others) ≡ here = ap (beside_at stepping format) c.loop-number.invariant.looked.1 ∙ next.1 in
    let one =
    at-place place (c.in-Err.ensures.looked (beside_at stepping format) (length h.beside.others)
    (shelf_at g.H.Source g.H.Shelf c.args.shelf.now)
    h.beside.came place h.beside.are.all h.came) in
    looked-into (g.B.BesideWriter.lines_of c.args.writer.now) (disk_by c.args.clocks c.args.looks c.args.dumps.now c.args.room.now.format)
    (shelf_at g.H.Source g.H.Shelf c.args.shelf.now)
    (shelf_at g.H.Source g.H.Shelf c.loop-number.shelf)
    (shelf_at g.H.Source g.H.Shelf c.read_one.new.shelf)
    c.args.room.now c.loop-number.room c.read_one.new.room (g.N.Sink.written c.args.notes.now) (sink_at g.N.Sink c.loop-number.notes) (sink_at g.N.Sink c.read_one.new.notes)
    c.loop-number.invariant.looked.0 (Err c.in-Err.failed) low c.loop-number.invariant.format one c.args.sectors.now (sym c.if-not-wants.ensures) one.puts.err

pub returns-in-Err-clause-counts : goal.returns-in-Err-clause-counts
returns-in-Err-clause-counts g c =
    let h = c.loop-number.invariant.looked.0 in
    let stepping = c.args.dumps.now.stepping in
    let format = c.args.room.now.format in
    let here : Id = (record { cylinder = c.loop-number.number / 2; head = c.loop-number.number % 2 }) in
    let none = none-here format c.room_format.result here (is_some c.number_of.result) c.number_of.ensures.is (c.room_format.ensures ∙ c.loop-number.invariant.format) c.if-is_none.ensures in
    let next = beside-next stepping format c.loop-number.number (omega (arith, c.most_cylinders-number-end.ensures, c.loop-number-test.true)) none in
    let low : length h.beside.others < length (beside_tracks stepping format) = omega (arith, c.loop-number.invariant.looked.1, next.0) in
    let place : beside_at stepping format (length h.beside.others) ≡ here = ap (beside_at stepping format) c.loop-number.invariant.looked.1 ∙ next.1 in
    let one =
    at-place place (c.in-Err.ensures.looked (beside_at stepping format) (length h.beside.others)
    (shelf_at g.H.Source g.H.Shelf c.args.shelf.now)
    h.beside.came place h.beside.are.all h.came) in
    Counts-then _ c.loop-number.invariant.counts one.puts.counts

pub loop-number-preserved : goal.loop-number-preserved
loop-number-preserved g c =
    elim c.if-is_none.branch [
      | then-is_none+in-Ok w ↦
          rw (w.room-is, w.shelf-is, w.notes-is, w.second-is)
          (let h = c.loop-number.invariant.looked.0 in
          let stepping = c.args.dumps.now.stepping in
          let format = c.args.room.now.format in
          let here : Id = (record { cylinder = c.loop-number.number / 2; head = c.loop-number.number % 2 }) in
          let none = none-here format c.room_format.result here (is_some c.number_of.result) c.number_of.ensures.is (c.room_format.ensures ∙ c.loop-number.invariant.format) w.if-is_none.ensures in
          let next = beside-next stepping format c.loop-number.number (omega (arith, c.most_cylinders-number-end.ensures, c.loop-number-test.true)) none in
          let low : length h.beside.others < length (beside_tracks stepping format) = omega (arith, c.loop-number.invariant.looked.1, next.0) in
          let place : beside_at stepping format (length h.beside.others) ≡ here = ap (beside_at stepping format) c.loop-number.invariant.looked.1 ∙ next.1 in
          let one =
          at-place place (w.in-Ok.ensures.looked (beside_at stepping format) (length h.beside.others)
          (shelf_at g.H.Source g.H.Shelf c.args.shelf.now)
          h.beside.came place h.beside.are.all h.came) in
          record {
            looked = looked-next (g.B.BesideWriter.lines_of c.args.writer.now) (disk_by c.args.clocks c.args.looks c.args.dumps.now c.args.room.now.format)
                (shelf_at g.H.Source g.H.Shelf c.args.shelf.now)
                (shelf_at g.H.Source g.H.Shelf c.loop-number.shelf)
                (shelf_at g.H.Source g.H.Shelf w.read_one.new.shelf)
                c.args.room.now c.loop-number.room w.read_one.new.room (g.N.Sink.written c.args.notes.now) (sink_at g.N.Sink c.loop-number.notes) (sink_at g.N.Sink w.read_one.new.notes)
                c.loop-number.invariant.looked.0 (Ok tt) low c.loop-number.invariant.format one one.puts.ok
                (beside_before stepping format c.loop-number.number) (beside_before stepping format (c.loop-number.number + 1)) c.loop-number.invariant.looked.1 next.2;
            second = λ sound.
                let s0 = g.D.SecondSinks.now c.args.second.now in
                let s = g.D.SecondSinks.now c.loop-number.second in
                let s' = g.D.SecondSinks.now w.read_one.new.second in
                let begun = shelf_at g.H.Source g.H.Shelf c.args.shelf.now in
                let took = w.in-Ok.ensures.second (beside_at stepping format) (length h.beside.others) begun h.beside.came place h.beside.are.all h.came sound in
                let before = c.loop-number.invariant.second took.0 in
                let h2 = before.2.0 in
                let place2 : beside_at stepping format (length h2.beside.others) ≡ here = ap (beside_at stepping format) before.2.1 ∙ next.1 in
                let low2 : length h2.beside.others < length (beside_tracks stepping format) = omega (arith, before.2.1, next.0) in
                let took2 = w.in-Ok.ensures.second (beside_at stepping format) (length h2.beside.others) begun h2.beside.came place2 h2.beside.are.all h2.came sound in
                let one2 = at-place place2 took2.2 in (
                  before.0,
                  took.1 ∙ before.1,
                  looked-next (g.B.BesideWriter.second_lines_of c.args.writer.now) (disk_by c.args.clocks c.args.looks c.args.dumps.now c.args.room.now.format)
                      begun
                      (shelf_at g.H.Source g.H.Shelf c.loop-number.shelf)
                      (shelf_at g.H.Source g.H.Shelf w.read_one.new.shelf)
                      c.args.room.now c.loop-number.room w.read_one.new.room s0.notes (untold s.notes) (untold s'.notes)
                      h2 (Ok tt) low2 c.loop-number.invariant.format one2 one2.puts.ok
                      (beside_before stepping format c.loop-number.number) (beside_before stepping format (c.loop-number.number + 1)) before.2.1 next.2,
                );
            format = w.read_one.ensures.format ∙ c.loop-number.invariant.format;
            below = below-more w.read_one.new.room (length (tracks format) + c.loop-number.number + 1) (length (tracks format) + (c.loop-number.number + 1)) (omega arith)
                (w.read_one.ensures.below (length (tracks format) + c.loop-number.number) c.loop-number.invariant.below);
            counts = Counts-then _ c.loop-number.invariant.counts one.puts.counts;
          })
      | else-is_none w ↦
          rw (w.room-is, w.shelf-is, w.notes-is, w.second-is)
          (let stepping = c.args.dumps.now.stepping in
          let format = c.args.room.now.format in
          let here : Id = (record { cylinder = c.loop-number.number / 2; head = c.loop-number.number % 2 }) in
          let is = one-here format c.room_format.result here (is_some c.number_of.result) c.number_of.ensures.is (c.room_format.ensures ∙ c.loop-number.invariant.format) w.if-is_none.ensures in
          record {
            looked = (
              c.loop-number.invariant.looked.0,
              c.loop-number.invariant.looked.1
                  ∙ sym (beside-same stepping format c.loop-number.number (omega (arith, c.most_cylinders-number-end.ensures, c.loop-number-test.true)) is),
            );
            second = λ sound.
                let before = c.loop-number.invariant.second sound in (
                  before.0,
                  before.1,
                  (
                    before.2.0,
                    before.2.1
                        ∙ sym (beside-same stepping format c.loop-number.number (omega (arith, c.most_cylinders-number-end.ensures, c.loop-number-test.true)) is),
                  ),
                );
            format = c.loop-number.invariant.format;
            below = below-more c.loop-number.room (length (tracks format) + c.loop-number.number) (length (tracks format) + (c.loop-number.number + 1)) (omega arith) c.loop-number.invariant.below;
            counts = c.loop-number.invariant.counts;
          })
    ]

pub returns-clause-ok : goal.returns-clause-ok
returns-clause-ok g c =
    all-asked (g.B.BesideWriter.lines_of c.args.writer.now) (disk_by c.args.clocks c.args.looks c.args.dumps.now c.args.room.now.format) c.args.sectors.now
    (shelf_at g.H.Source g.H.Shelf c.args.shelf.now)
    (shelf_at g.H.Source g.H.Shelf c.loop-number.shelf)
    c.args.room.now c.loop-number.room (g.N.Sink.written c.args.notes.now) (g.N.Sink.written c.loop-number.notes) (sym c.if-not-wants.ensures) c.loop-number.invariant.looked.0 c.loop-number.number
    (omega (arith, c.most_cylinders-number-end.ensures, c.loop-number-test.false)) c.loop-number.invariant.looked.1

pub returns-clause-second : goal.returns-clause-second
returns-clause-second g c = λ sound.
    let last = c.loop-number.invariant.second sound in (
      last.0,
      last.1,
      all-asked (g.B.BesideWriter.second_lines_of c.args.writer.now) (disk_by c.args.clocks c.args.looks c.args.dumps.now c.args.room.now.format) c.args.sectors.now
          (shelf_at g.H.Source g.H.Shelf c.args.shelf.now)
          (shelf_at g.H.Source g.H.Shelf c.loop-number.shelf)
          c.args.room.now c.loop-number.room (g.D.SecondSinks.now c.args.second.now).notes (g.D.SecondSinks.now c.loop-number.second).notes (sym c.if-not-wants.ensures) last.2.0 c.loop-number.number
          (omega (arith, c.most_cylinders-number-end.ensures, c.loop-number-test.false)) last.2.1,
    )

pub returns-clause-counts : goal.returns-clause-counts
returns-clause-counts g c = c.loop-number.invariant.counts
