use Rattle.std.proofs.Common.{◌≡◌, ◌+◌, ap, ◌∙◌, arith, length}
use Rattle.flux_base.specs.lemmas.Counting.{Counts-then}
use Rattle.flux_engine.specs.lemmas.Pieces.{pieces_next, pieces_stop}
use Rattle.sector_images.specs.Places.{tracks}
use Rattle.g64_image.specs.Layout.{image_record, track_record}
use Rattle.g64_image.proofs.Tables.{short_ring}
use Rattle.g64_image.proofs.writing.write_tracks.Goals as goal

pub track_record-track-requires : goal.track_record-track-requires
track_record-track-requires g c =
    let short = short_ring c.args.format c.requires.format c.loop-number.number in
    omega (arith, short, c.in-Ok.ensures.ring.cells_are)

pub unreachable-requires : goal.unreachable-requires
unreachable-requires g c =
    let short = short_ring c.args.format c.requires.format c.loop-number.number in
    let never = c.in-Err.ensures.succeeds (omega (arith, short, c.requires.room, c.loop-number.invariant.room)) in
    cc

pub returns-in-Err-write_whole-clause-puts : goal.returns-in-Err-write_whole-clause-puts
returns-in-Err-write_whole-clause-puts g c =
    let at : c.loop-number.number ≡ 0 + c.loop-number.number = omega arith in record {
      ok = tt;
      err = pieces_stop (image_record c.args.format c.args.image.now) _ _ _ 0 c.loop-number.number (length (tracks c.args.format)) _
          (omega (arith, c.track_count-number-end.ensures))
          (c.as_slice.ensures.value ∙ c.track_record-track.ensures ∙ ap track_record c.in-Ok.ensures.ok ∙ ap (image_record c.args.format c.args.image.now) at)
          c.loop-number.invariant.grew c.in-Err-write_whole.ensures.err;
      counts = Counts-then _ c.loop-number.invariant.counts c.in-Err-write_whole.ensures.counts;
    }

pub loop-number-preserved : goal.loop-number-preserved
loop-number-preserved g c =
    let at : c.loop-number.number ≡ 0 + c.loop-number.number = omega arith in record {
      grew = pieces_next (image_record c.args.format c.args.image.now) _ _ _ 0 c.loop-number.number _
          (c.as_slice.ensures.value ∙ c.track_record-track.ensures ∙ ap track_record c.in-Ok.ensures.ok ∙ ap (image_record c.args.format c.args.image.now) at)
          c.loop-number.invariant.grew c.in-Ok-write_whole.ensures.ok;
      room = omega (arith, c.loop-number.invariant.room, c.in-Ok.ensures.room);
      counts = Counts-then _ c.loop-number.invariant.counts c.in-Ok-write_whole.ensures.counts;
    }
