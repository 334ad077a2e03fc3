use Rattle.std.proofs.Common.{◌∙◌, ap, length}
use Rattle.flux_trial.proofs.Giving.{stream-is}
use Rattle.flux_engine.specs.lemmas.TrackAt.{is_known_at}
use Rattle.flux_trial.proofs.Rings.{is_image, is_trial_ring}
use Rattle.flux_trial.proofs.Writing.{early, ends, few, near, never_full, short}
use Rattle.flux_trial.proofs.source.write_track_of.Goals as goal

pub track_ring-requires-clause-image : goal.track_ring-requires-clause-image
track_ring-requires-clause-image c = ap length c.requires.image ∙ (is_image c.args.format c.args.seed).size

pub trial_flux-requires-clause-ring : goal.trial_flux-requires-clause-ring
trial_flux-requires-clause-ring c =
    is_trial_ring c.tracks_keep_bounds.ensures.bounds c.args.format c.args.number c.track_ring.new.cells.cells
    (is_known_at c.args.format c.args.number c.track_id.result c.track_id.ensures.at c.track_id.ensures.track) c.in-Ok.ensures.ring

pub write_times-requires-clause-near : goal.write_times-requires-clause-near
write_times-requires-clause-near c =
    near c.tracks_keep_bounds.ensures.bounds c.args.format c.args.seed c.args.number c.nominal-cell.result c.track_id.result c.track_id.ensures.at c.track_id.ensures.track
    c.nominal-cell.ensures c.track_ring.new.cells.cells c.in-Ok.ensures.ring c.trial_flux.new.flux.times c.trial_flux.new.flux.indexes c.in-Ok-trial_flux.ensures.times c.in-Ok-trial_flux.ensures.indexes

pub write_times-requires-clause-few : goal.write_times-requires-clause-few
write_times-requires-clause-few c =
    few c.tracks_keep_bounds.ensures.bounds c.args.format c.args.seed c.args.number c.nominal-cell.result c.track_id.result c.track_id.ensures.at c.track_id.ensures.track
    c.nominal-cell.ensures c.track_ring.new.cells.cells c.in-Ok.ensures.ring c.trial_flux.new.flux.times c.trial_flux.new.flux.indexes c.in-Ok-trial_flux.ensures.times c.in-Ok-trial_flux.ensures.indexes

pub write_times-requires-clause-early : goal.write_times-requires-clause-early
write_times-requires-clause-early c =
    early c.tracks_keep_bounds.ensures.bounds c.args.format c.args.seed c.args.number c.nominal-cell.result c.track_id.result c.track_id.ensures.at c.track_id.ensures.track
    c.nominal-cell.ensures c.track_ring.new.cells.cells c.in-Ok.ensures.ring c.trial_flux.new.flux.times c.trial_flux.new.flux.indexes c.in-Ok-trial_flux.ensures.times c.in-Ok-trial_flux.ensures.indexes

pub unreachable-requires-in-Err-write_times : goal.unreachable-requires-in-Err-write_times
unreachable-requires-in-Err-write_times c =
    let size = short c.tracks_keep_bounds.ensures.bounds c.args.format c.args.seed c.args.number c.nominal-cell.result c.track_id.result c.track_id.ensures.at c.track_id.ensures.track
    c.nominal-cell.ensures c.track_ring.new.cells.cells c.in-Ok.ensures.ring c.trial_flux.new.flux.times c.trial_flux.new.flux.indexes c.in-Ok-trial_flux.ensures.times
    c.in-Ok-trial_flux.ensures.indexes c.written_law.ensures.size in
    let last = ends c.tracks_keep_bounds.ensures.bounds c.args.format c.args.seed c.args.number c.nominal-cell.result c.track_id.result c.track_id.ensures.at c.track_id.ensures.track
    c.nominal-cell.ensures c.track_ring.new.cells.cells c.in-Ok.ensures.ring c.trial_flux.new.flux.times c.trial_flux.new.flux.indexes c.in-Ok-trial_flux.ensures.times
    c.in-Ok-trial_flux.ensures.indexes in
    let puts = c.in-Err-write_times.ensures.ended last in
    never_full c.clear.new.self _ c.write_times.new.sink c.clear.ensures size puts.err puts.counts.cause

pub returns-clause-stream : goal.returns-clause-stream
returns-clause-stream c =
    let last = ends c.tracks_keep_bounds.ensures.bounds c.args.format c.args.seed c.args.number c.nominal-cell.result c.track_id.result c.track_id.ensures.at c.track_id.ensures.track
    c.nominal-cell.ensures c.track_ring.new.cells.cells c.in-Ok.ensures.ring c.trial_flux.new.flux.times c.trial_flux.new.flux.indexes c.in-Ok-trial_flux.ensures.times
    c.in-Ok-trial_flux.ensures.indexes in
    stream-is c.args.format c.args.seed c.args.number c.nominal-cell.result c.track_id.result c.args.image.now c.track_ring.new.cells.cells
    c.trial_flux.new.flux.times c.trial_flux.new.flux.indexes c.clear.new.self c.write_times.new.sink c.track_id.ensures.at c.requires.image c.in-Ok.ensures.ok
    c.nominal-cell.ensures c.in-Ok-trial_flux.ensures.times c.in-Ok-trial_flux.ensures.indexes c.clear.ensures (c.in-Ok-write_times.ensures.ended last).ok
