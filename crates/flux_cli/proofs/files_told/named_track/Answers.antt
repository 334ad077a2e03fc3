use Rattle.flux_engine.specs.lemmas.TrackAt.{track_is}
use Rattle.flux_cli.proofs.files_told.named_track.Goals as goal

pub returns-clause-is : goal.returns-clause-is
returns-clause-is c = track_is c.args.format c.args.number c.track_id.result c.track_id.ensures.at

pub returns-clause-named : goal.returns-clause-named
returns-clause-named c =
    let bounds = c.tracks_keep_bounds.ensures.bounds c.args.format c.track_id.result c.track_id.ensures.track in
    record { cylinder = bounds.cylinder; head = bounds.head }
