use Rattle.std.proofs.Common.{◌≡◌, ℕ, ap, arith, subst}
use Rattle.std.specs.List.{flat_map, range_with_len}
use Rattle.std.specs.Io.KnownBytes.{Appends}
use Rattle.flux_base.specs.lemmas.Counting.{Counts-then}
use Rattle.flux_engine.specs.Recordings.{sectors_of}
use Rattle.flux_engine.specs.Tracks.{image_piece, image_of}
use Rattle.disk_recordings.specs.declared.sectors.Sectors.{Sectors}
use Rattle.flux_engine.proofs.ImagePieces.{is_piece}
use Rattle.flux_engine.specs.lemmas.Pieces.{pieces_next, pieces_stop}
use Rattle.flux_engine.proofs.writing.write_image.Goals as goal

pub returns-in-Err-clause-err : goal.returns-in-Err-clause-err
unfolding image_of
returns-in-Err-clause-err g c = λ readings stands.
    let count : c.sectors_of-sectors.result.count ≡ (sectors_of c.args.format c.args.track).count = ap (λ (s : Sectors). s.count) c.sectors_of-sectors.ensures in
    pieces_stop (image_piece c.args.format c.args.track readings) _ _ _ 0 c.loop-number.number (sectors_of c.args.format c.args.track).count c.image_bytes-bytes.result.now
    (omega (arith, count))
    (is_piece c.args.format c.args.track readings c.sectors_of-sectors.result c.image_sector-sector.result c.loop-number.number c.image_bytes-bytes.result.now
    c.sectors_of-sectors.ensures c.image_sector-sector.ensures.first (c.image_bytes-bytes.ensures readings stands))
    (c.loop-number.invariant.grew readings stands) c.in-Err.ensures.err

pub loop-number-preserved : goal.loop-number-preserved
loop-number-preserved g c = record {
  grew = λ readings stands.
      pieces_next (image_piece c.args.format c.args.track readings) _ _ _ 0 c.loop-number.number c.image_bytes-bytes.result.now
      (is_piece c.args.format c.args.track readings c.sectors_of-sectors.result c.image_sector-sector.result c.loop-number.number c.image_bytes-bytes.result.now
      c.sectors_of-sectors.ensures c.image_sector-sector.ensures.first (c.image_bytes-bytes.ensures readings stands))
      (c.loop-number.invariant.grew readings stands) c.in-Ok.ensures.ok;
  counts = Counts-then _ c.loop-number.invariant.counts c.in-Ok.ensures.counts;
}

pub returns-clause-ok : goal.returns-clause-ok
unfolding image_of
returns-clause-ok g c = λ readings stands.
    let count : c.sectors_of-sectors.result.count ≡ (sectors_of c.args.format c.args.track).count = ap (λ (s : Sectors). s.count) c.sectors_of-sectors.ensures in
    let all : c.loop-number.number ≡ (sectors_of c.args.format c.args.track).count = omega (arith, count) in
    subst (λ (n : ℕ). Appends (g.W.Sink.written c.args.image.now) (g.W.Sink.written c.loop-number.image)
    (flat_map (image_piece c.args.format c.args.track readings) (range_with_len 0 n))) all (c.loop-number.invariant.grew readings stands)

pub returns-in-Err-clause-counts : goal.returns-in-Err-clause-counts
returns-in-Err-clause-counts g c = Counts-then _ c.loop-number.invariant.counts c.in-Err.ensures.counts
