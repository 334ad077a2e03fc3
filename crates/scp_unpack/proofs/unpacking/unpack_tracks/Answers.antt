use Rattle.std.proofs.Common.{◌≡◌, None, refl, sym, ap, subst, ◌∙◌, arith}
use Rattle.std.specs.Io.KnownBytes.{Appends}
use Rattle.flux_base.specs.Outside.{AppendsPart}
use Rattle.flux_base.specs.lemmas.Blaming.{CountsBy-none, CountsBy-then}
use Rattle.track_shelf.specs.Told.{ShelfTold}
use Rattle.scp_unpack.specs.Answers.{Asked}
use Rattle.scp_tracks.specs.lemmas.Failing.{none-failed}
use Rattle.scp_unpack.proofs.Coming.{all-told, next, none-more, one-more, pass, start, stopped, total-cut}
use Rattle.scp_unpack.proofs.unpacking.unpack_tracks.Goals as goal

pub loop-number-init : goal.loop-number-init
loop-number-init g c = record {
  done = start (record { shelf = g.H.Shelf.files c.args.shelf.now; path = c.args.path.now; folder = c.args.folder.now })
      (g.M.FileMaker.made c.args.maker.now) (g.N.Sink.written c.args.notes.now);
  files = omega arith;
  refused = omega arith;
  told = refl;
  blames = CountsBy-none _;
}

pub loop-number-preserved-in_default : goal.loop-number-preserved-in_default
loop-number-preserved-in_default g c =
    let asked : Asked = record { shelf = g.H.Shelf.files c.args.shelf.now; path = c.args.path.now; folder = c.args.folder.now } in
    let n = c.loop-number.number in
    let so_far = c.loop-number.invariant in
    let none : None ≡ _ = sym c.in_default.is ∙ c.track.ensures in record {
      done = pass asked (g.M.FileMaker.made c.args.maker.now) (g.N.Sink.written c.args.notes.now) n (g.M.FileMaker.made c.loop-number.maker)
          (g.N.Sink.written c.loop-number.notes) c.loop-number.unpacked so_far.done
          (λ came first. none-more c.args.header.now c.begins_tell.ensures.files asked c.requires.front n came first none);
      files = omega (arith, so_far.files);
      refused = omega (arith, so_far.refused);
      told = so_far.told;
      blames = so_far.blames;
    }

pub returns-in-Err-clause-says : goal.returns-in-Err-clause-says
returns-in-Err-clause-says g c =
    let asked : Asked = record { shelf = g.H.Shelf.files c.args.shelf.now; path = c.args.path.now; folder = c.args.folder.now } in
    let n = c.loop-number.number in
    let so_far = c.loop-number.invariant in
    let same = ap (λ (t : ShelfTold). t.files) so_far.told in
    stopped asked (g.M.FileMaker.made c.args.maker.now) (g.N.Sink.written c.args.notes.now) n (g.M.FileMaker.made c.loop-number.maker)
    (g.N.Sink.written c.loop-number.notes) c.loop-number.unpacked so_far.done _
    (λ came it first known. one-more c.args.header.now c.begins_tell.ensures.files asked c.requires.front n came first
    (g.H.Shelf.files c.loop-number.shelf) c.resolution.result c.revolutions.result c.in-Some.offset it same c.resolution.ensures c.revolutions.ensures
    c.in-Some.ensures known)
    (g.M.FileMaker.made c.unpack_track.new.maker) (g.N.Sink.written c.unpack_track.new.notes) c.loop-number-test.true c.in-Err.fault c.in-Err.ensures.track

pub loop-number-preserved : goal.loop-number-preserved
loop-number-preserved g c =
    let asked : Asked = record { shelf = g.H.Shelf.files c.args.shelf.now; path = c.args.path.now; folder = c.args.folder.now } in
    let n = c.loop-number.number in
    let so_far = c.loop-number.invariant in
    let same = ap (λ (t : ShelfTold). t.files) so_far.told in record {
      done = next asked (g.M.FileMaker.made c.args.maker.now) (g.N.Sink.written c.args.notes.now) n (g.M.FileMaker.made c.loop-number.maker)
          (g.N.Sink.written c.loop-number.notes) c.loop-number.unpacked so_far.done _
          (λ came it first known. one-more c.args.header.now c.begins_tell.ensures.files asked c.requires.front n came first
          (g.H.Shelf.files c.loop-number.shelf) c.resolution.result c.revolutions.result c.in-Some.offset it same c.resolution.ensures
          c.revolutions.ensures c.in-Some.ensures known)
          (g.M.FileMaker.made c.unpack_track.new.maker) (g.N.Sink.written c.unpack_track.new.notes) c.in-Ok.one c.in-Ok.ensures.track;
      files = omega (arith, so_far.files, c.in-Ok.ensures.one.0);
      refused = omega (arith, so_far.refused, c.in-Ok.ensures.one.1);
      told = c.in-Ok.ensures.told ∙ none-failed _ ∙ so_far.told;
      blames = CountsBy-then _ so_far.blames c.in-Ok.ensures.blames;
    }

pub returns-in-Ok-write_line-clause-says : goal.returns-in-Ok-write_line-clause-says
returns-in-Ok-write_line-clause-says g c =
    let asked : Asked = record { shelf = g.H.Shelf.files c.args.shelf.now; path = c.args.path.now; folder = c.args.folder.now } in
    all-told asked (g.M.FileMaker.made c.args.maker.now) (g.N.Sink.written c.args.notes.now) c.loop-number.number (g.M.FileMaker.made c.loop-number.maker)
    (g.N.Sink.written c.loop-number.notes) c.loop-number.unpacked c.loop-number.invariant.done (g.N.Sink.written c.write_line.new.sink)
    (let e : c.loop-number.number ≡ 168 = omega (arith, c.loop-number-test.false, c.loop-number.auto.number-end) in e)
    (subst (Appends (g.N.Sink.written c.loop-number.notes) (g.N.Sink.written c.write_line.new.sink)) c.total_line.ensures c.in-Ok-write_line.ensures.ok)

pub returns-in-Err-write_line-clause-says : goal.returns-in-Err-write_line-clause-says
returns-in-Err-write_line-clause-says g c =
    let asked : Asked = record { shelf = g.H.Shelf.files c.args.shelf.now; path = c.args.path.now; folder = c.args.folder.now } in
    total-cut asked (g.M.FileMaker.made c.args.maker.now) (g.N.Sink.written c.args.notes.now) c.loop-number.number (g.M.FileMaker.made c.loop-number.maker)
    (g.N.Sink.written c.loop-number.notes) c.loop-number.unpacked c.loop-number.invariant.done (g.N.Sink.written c.write_line.new.sink)
    (subst (AppendsPart (g.N.Sink.written c.loop-number.notes) (g.N.Sink.written c.write_line.new.sink)) c.total_line.ensures
    c.in-Err-write_line.ensures.err)
