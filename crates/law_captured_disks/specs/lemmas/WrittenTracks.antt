-- The tracks that are written of an image, by their numbers: each is a track of the format, its
-- ring is one, and its sectors' own bytes stand in the image.
use Rattle.std.specs.Prelude.{◌≡◌, ◌<◌, ℕ, List, length, unwrap_or, Option}
use Rattle.std.proofs.Common.{ap, sym, subst}
use Rattle.disk_recordings.specs.Laws.{RingsHaveCells}
use Rattle.flux_base.specs.declared.track.TrackId.{TrackId}
use Rattle.flux_engine.specs.Recordings.{track_at}
use Rattle.flux_engine.specs.Rings.{IsImage, IsRing, ring_cells_of, ring_of, sector_bytes}
use Rattle.law_decoded_rings.specs.Written.{HasSector}
use Rattle.sector_images.specs.Places.{IsTrack, NumbersNameTracks, SectorsLieInImages, tracks}
use Rattle.sector_images.specs.declared.format.Format.{Format}
use Rattle.law_captured_disks.specs.Frames.{written_track}
use Rattle.law_captured_disks.specs.Headline.{IsSectorOf}
use Rattle.law_captured_disks.specs.lemmas.TrackBytes.{are_sectors, own_bytes}

pub known_at : NumbersNameTracks → (format : Format) (n : ℕ) → n < length (tracks format)
    → IsTrack format (track_at format n)
known_at names format n known =
    let one = names format n known in
    subst (IsTrack format)
    (sym (ap (λ (t : Option TrackId). unwrap_or t (record { cylinder = 0; head = 0 })) one.1))
    one.2

pub record AreWritten (format : Format) (image : List ℕ) : Type 0 where
  pub known : (n : ℕ) → n < length (tracks format) → IsTrack format (track_at format n)
  pub ring : (n : ℕ) → n < length (tracks format)
      → IsRing (ring_cells_of format n) (ring_of format image n)
  pub content : (n sector : ℕ) → IsSectorOf format n sector
      → (written_track format image n).bytes_of sector
      ≡ sector_bytes format (track_at format n) image sector
  pub has : (n sector : ℕ) → IsSectorOf format n sector
      → HasSector (written_track format image n) sector

pub are_written : NumbersNameTracks → RingsHaveCells → SectorsLieInImages
    → (format : Format) (image : List ℕ) → IsImage format image → AreWritten format image
are_written names rings lie format image is = record {
  known = known_at names format;
  ring = λ n known.
      let track = known_at names format n known in
      let ring = rings format _ (track_at format n) _ track
      (are_sectors lie format (track_at format n) image is track) in
      record { cells_are = ring.0; spaced = ring.1 };
  content = λ n sector one.
      own_bytes lie format (track_at format n) image is (known_at names format n one.track) sector
      one.known;
  has = λ n sector one. record { least = one.known.0; most = one.known.1 };
}
