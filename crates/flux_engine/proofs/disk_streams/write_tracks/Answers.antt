use Rattle.std.proofs.Common.{◌≡◌, ℕ, arith, subst, length}
use Rattle.std.specs.List.{flat_map, range_with_len}
use Rattle.std.specs.Io.KnownBytes.{Appends}
use Rattle.flux_base.specs.lemmas.Counting.{Counts-then}
use Rattle.flux_engine.specs.Recordings.{track_at}
use Rattle.flux_engine.specs.Rings.{streams_of, track_stream}
use Rattle.sector_images.specs.Places.{tracks}
use Rattle.flux_engine.specs.lemmas.Pieces.{pieces_next, pieces_stop}
use Rattle.flux_engine.specs.lemmas.TrackAt.{is_known_at}
use Rattle.flux_engine.proofs.RingLaws.{is_early, is_stream, room_for}
use Rattle.flux_engine.proofs.disk_streams.write_tracks.Goals as goal

pub unreachable-requires : goal.unreachable-requires
unreachable-requires g c =
    let never = c.in-Err.ensures.succeeds (room_for c.args.format c.loop-number.number c.track_id.result c.args.ring.now c.loop-number.ring
    c.track_id.ensures.at c.track_id.ensures.track c.requires.room c.loop-number.invariant.room) in
    cc

pub write_track-requires-clause-one : goal.write_track-requires-clause-one
write_track-requires-clause-one g c =
    is_early c.tracks_keep_bounds.ensures.bounds c.args.format (track_at c.args.format c.loop-number.number)
    (is_known_at c.args.format c.loop-number.number c.track_id.result c.track_id.ensures.at c.track_id.ensures.track) c.track_ring.new.cells.cells c.in-Ok.ensures.ring

pub returns-in-Err-write_track-clause-puts : goal.returns-in-Err-write_track-clause-puts
unfolding streams_of
returns-in-Err-write_track-clause-puts g c = record {
  ok = tt;
  err = pieces_stop (track_stream c.args.format c.args.image.now) _ _ _ 0 c.loop-number.number (length (tracks c.args.format)) _
      (omega (arith, c.track_count-number-end.ensures))
      (is_stream c.args.format c.args.image.now c.loop-number.number c.track_id.result c.track_ring.new.cells.cells c.nominal-cell.result
      c.track_id.ensures.at c.in-Ok.ensures.ok c.nominal-cell.ensures)
      c.loop-number.invariant.grew c.in-Err-write_track.ensures.err;
  counts = Counts-then _ c.loop-number.invariant.counts c.in-Err-write_track.ensures.counts;
}

pub loop-number-preserved : goal.loop-number-preserved
loop-number-preserved g c = record {
  grew = pieces_next (track_stream c.args.format c.args.image.now) _ _ _ 0 c.loop-number.number _
      (is_stream c.args.format c.args.image.now c.loop-number.number c.track_id.result c.track_ring.new.cells.cells c.nominal-cell.result
      c.track_id.ensures.at c.in-Ok.ensures.ok c.nominal-cell.ensures)
      c.loop-number.invariant.grew c.in-Ok-write_track.ensures.ok;
  room = omega (arith, c.loop-number.invariant.room, c.in-Ok.ensures.room);
  counts = Counts-then _ c.loop-number.invariant.counts c.in-Ok-write_track.ensures.counts;
}

pub returns-clause-puts : goal.returns-clause-puts
unfolding streams_of
returns-clause-puts g c =
    let all : c.loop-number.number ≡ length (tracks c.args.format) = omega (arith, c.track_count-number-end.ensures) in record {
      ok = subst (λ (n : ℕ). Appends (g.W.Sink.written c.args.sink.now) (g.W.Sink.written c.loop-number.sink)
          (flat_map (track_stream c.args.format c.args.image.now) (range_with_len 0 n))) all c.loop-number.invariant.grew;
      err = tt;
      counts = c.loop-number.invariant.counts;
    }
