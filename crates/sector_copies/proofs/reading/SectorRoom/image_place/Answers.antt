use Rattle.std.specs.Prelude.{ℕ}
use Rattle.std.proofs.Common.{◌≡◌, ap, subst, ◌∙◌}
use Rattle.flux_base.specs.declared.track.TrackId.{TrackId}
use Rattle.flux_engine.specs.Recordings.{track_at}
use Rattle.flux_engine.specs.lemmas.TrackAt.{track_is}
use Rattle.sector_images.specs.Places.{sector_place}
use Rattle.sector_copies.specs.TrackReadings.{SectorRoomState}
use Rattle.sector_copies.proofs.reading.SectorRoom.image_place.Goals as goal

pub returns : goal.returns
returns c =
    let inside = c.self.inside in
    let is : c.track_id.result ≡ track_at inside.format inside.number = track_is inside.format inside.number c.track_id.result c.track_id.ensures.at in
    subst (λ (r : SectorRoomState). c.image_place.result ≡ sector_place r.format (track_at r.format r.number) r.known.sector) c.self.view_is
    (c.image_place.ensures.place ∙ ap (λ (t : TrackId). sector_place inside.format t c.sector.result) is
    ∙ ap (λ (s : ℕ). sector_place inside.format (track_at inside.format inside.number) s) c.sector.ensures)
