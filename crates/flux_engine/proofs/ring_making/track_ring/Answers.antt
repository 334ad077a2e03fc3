use Rattle.std.proofs.Common.{◌∙◌}
use Rattle.flux_engine.proofs.RingLaws.{is_made, is_ring_of, made_ring}
use Rattle.flux_engine.proofs.ring_making.track_ring.Goals as goal

pub returns-clause-ok : goal.returns-clause-ok
returns-clause-ok c =
    is_ring_of c.args.format c.args.number c.track_id-track.result c.args.image.now c.ring.result c.ring.new.cells.cells c.track_id-track.ensures.at
    (is_made c.args.format c.track_id-track.result c.args.image.now c.deref.result.now c.id_of.result c.recording_of.result c.ring.result c.ring.new.cells.cells
    c.recording_of.ensures.recording c.id_of.ensures (c.deref.ensures.0 ∙ c.sector_bytes-bytes.ensures.bytes) c.ring.ensures.ok)

pub returns-clause-ring : goal.returns-clause-ring
returns-clause-ring c =
    made_ring c.tracks_have_rings.ensures.cells c.args.format c.args.number c.track_id-track.result c.args.image.now c.sector_bytes-bytes.result.items c.ring.result
    c.ring.new.cells.cells c.track_id-track.ensures.at c.track_id-track.ensures.track c.sector_bytes-bytes.ensures.bytes
    c.sector_bytes-bytes.ensures.sectors
    (is_made c.args.format c.track_id-track.result c.args.image.now c.deref.result.now c.id_of.result c.recording_of.result c.ring.result c.ring.new.cells.cells
    c.recording_of.ensures.recording c.id_of.ensures (c.deref.ensures.0 ∙ c.sector_bytes-bytes.ensures.bytes) c.ring.ensures.ok)
