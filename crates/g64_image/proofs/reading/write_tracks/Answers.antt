use Rattle.std.proofs.Common.{◌≡◌, ◌+◌, Ok, Err, ap, arith}
use Rattle.flux_base.specs.lemmas.Blaming.{CountsBy-then}
use Rattle.sector_report.specs.declared.totals.Totals.{Totals}
use Rattle.g64_image.proofs.FileParts.{part-at, read_more, read_stop, ring-at}
use Rattle.g64_image.proofs.Tables.{track_sound}
use Rattle.g64_image.proofs.reading.write_tracks.Goals as goal

pub track_bytes-requires-clause-sound : goal.track_bytes-requires-clause-sound
track_bytes-requires-clause-sound g c =
    track_sound c.args.format c.args.file.now c.requires.sound c.loop-number.number (omega (arith, c.track_count-number-end.ensures))

pub returns-in-Err-clause-err : goal.returns-in-Err-clause-err
returns-in-Err-clause-err g c =
    let at = c.track_id-track.ensures.at in
    read_stop c.args.format c.args.file.now (g.W.Sink.written c.args.image.now) _ _ (g.N.Sink.written c.args.notes.now) _ _ c.loop-number.number c.loop-number.totals
    c.loop-number.invariant.read c.read_ring.new.tools.book (ring-at _ _ _ at _ c.args.file.now _ c.track_bytes.ensures.cells c.read_ring.ensures.gathered) c.in-Err.fault
    (omega (arith, c.track_count-number-end.ensures)) (part-at _ _ _ at _ _ _ _ _ (Err c.in-Err.fault) c.in-Err.ensures.wrote)

pub loop-number-preserved : goal.loop-number-preserved
loop-number-preserved g c =
    let at = c.track_id-track.ensures.at in
    let sum : c.add_totals.new.totals.sectors ≡ c.loop-number.totals.sectors + c.in-Ok.more.sectors = ap (λ (t : Totals). t.sectors) c.add_totals.ensures.value in
    record {
      read = read_more c.args.format c.args.file.now (g.W.Sink.written c.args.image.now) _ _ (g.N.Sink.written c.args.notes.now) _ _ c.loop-number.number c.loop-number.totals
          c.loop-number.invariant.read c.read_ring.new.tools.book (ring-at _ _ _ at _ c.args.file.now _ c.track_bytes.ensures.cells c.read_ring.ensures.gathered) c.in-Ok.more
          c.add_totals.new.totals (part-at _ _ _ at _ _ _ _ _ (Ok c.in-Ok.more) c.in-Ok.ensures.wrote) c.add_totals.ensures.value;
      roomy = c.read_ring.ensures.roomy;
      sum = c.add_totals.ensures.sum;
      few = omega (arith, c.in-Ok.ensures.few, sum, c.loop-number.invariant.few);
      blames = CountsBy-then _ c.loop-number.invariant.blames c.in-Ok.ensures.blames;
    }

pub returns-in-Err-clause-blames : goal.returns-in-Err-clause-blames
returns-in-Err-clause-blames g c = CountsBy-then _ c.loop-number.invariant.blames c.in-Err.ensures.blames
