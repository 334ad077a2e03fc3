-- The pieces of a track's part of the image.
use Rattle.std.specs.Prelude.{◌≡◌, ℕ, ◌+◌, List, replicate, unwrap_or}
use Rattle.std.proofs.Common.{ap, ◌∙◌, arith}
use Rattle.flux_base.specs.declared.track.TrackId.{TrackId}
use Rattle.sector_images.specs.Places.{sector_in}
use Rattle.sector_images.specs.declared.format.Format.{Format}
use Rattle.turn_merge.specs.Readings.{NotedReading, agreed}
use Rattle.flux_engine.specs.Recordings.{sectors_of}
use Rattle.flux_engine.specs.Tracks.{image_bytes, image_piece}
use Rattle.disk_recordings.specs.declared.sectors.Sectors.{Sectors}

pub is_piece : (format : Format) (track : TrackId) (readings : List NotedReading) (sectors : Sectors) (sector number : ℕ) (bytes : List ℕ)
    → sectors ≡ sectors_of format track → sector ≡ sector_in format track number
    → bytes ≡ unwrap_or (agreed readings sector) (replicate sectors.size 0) → bytes ≡ image_piece format track readings (0 + number)
is_piece format track readings sectors sector number bytes all at is =
    let here : number ≡ 0 + number = omega arith in
    is ∙ ap (λ (s : Sectors). image_bytes s readings sector) all ∙ ap (image_bytes (sectors_of format track) readings) at
    ∙ ap (image_piece format track readings) here
