use Rattle.std.proofs.Common.{◌≡◌, subst}
use Rattle.flux_engine.specs.Recordings.{track_at}
use Rattle.flux_engine.specs.lemmas.TrackAt.{track_is}
use Rattle.sector_copies.specs.TrackReadings.{SectorRoomState}
use Rattle.sector_copies.proofs.reading.SectorRoom.track.Goals as goal

pub returns-clause-is : goal.returns-clause-is
returns-clause-is c =
    subst (λ (r : SectorRoomState). c.track_id.result ≡ track_at r.format r.number) c.self.view_is
    (track_is c.self.inside.format c.self.inside.number c.track_id.result c.track_id.ensures.at)
