-- Each track that is written of an image is read as its own.
use Rattle.std.specs.Prelude.{◌≡◌, ℕ, List, length, unwrap_or, Option}
use Rattle.std.proofs.Common.{ap, sym, subst, arith}
use Rattle.flux_base.specs.declared.track.TrackId.{TrackId}
use Rattle.disk_recordings.specs.Laws.{AreTrackBytes, FramesAreWhole, FramesHaveCells}
use Rattle.disk_recordings.specs.Laws.{OnlyOwnDataStand, OnlyOwnStand, RewrittenStandAlone}
use Rattle.disk_recordings.specs.Laws.{RingsHaveCells, SectorsStand, SectorsStandToo, StandAlone}
use Rattle.disk_recordings.specs.Members.{as_controllers_read, data_at, frame_cells, header_at}
use Rattle.disk_recordings.specs.Members.{place_in_ring, ring_at}
use Rattle.disk_recordings.specs.declared.disk_id.DiskId.{DiskId}
use Rattle.frame_law.specs.Controller.{START_ZEROS, SectorStandsBy}
use Rattle.sector_images.specs.Formats.{row, zone}
use Rattle.sector_images.specs.declared.format.Format.{Format}
use Rattle.sector_images.specs.declared.format.Format.TheVariants.{AppleDo, AppleDos33, ApplePo}
use Rattle.sector_images.specs.declared.format.Format.TheVariants.{AppleProdos}
use Rattle.sector_images.specs.Places.{IsTrack, NumbersNameTracks, SectorsLieInImages}
use Rattle.track_rings.specs.Rings.{LiesAt, bytes_of}
use Rattle.flux_engine.specs.Recordings.{sectors_of, track_at}
use Rattle.flux_engine.specs.Rings.{disk_id, ring_of, track_bytes}
use Rattle.law_decoded_rings.specs.Written.{IsReadWithin, WrittenTrack}
use Rattle.law_captured_disks.specs.Frames.{RewrittenTracksAreOwn, TracksAreOwn}
use Rattle.law_captured_disks.specs.lemmas.TrackBytes.{are_sectors}

pub tracks_are_own : NumbersNameTracks → SectorsLieInImages → StandAlone → OnlyOwnStand
    → SectorsStand → FramesAreWhole → FramesHaveCells → RingsHaveCells → TracksAreOwn
tracks_are_own names lie alone only stand whole cells rings format image k is below =
    let track : TrackId = track_at format k in
    let named = names format k below in
    let known : IsTrack format track =
    subst (IsTrack format)
    (sym (ap (λ (t : Option TrackId). unwrap_or t (record { cylinder = 0; head = 0 })) named.1))
    named.2 in
    let bytes : List ℕ = track_bytes format track image in
    let are : AreTrackBytes format track bytes = are_sectors lie format track image is known in
    let size : length (ring_of format image k) ≡ (zone format track.cylinder).ring_cells =
    (rings format (disk_id format image) track bytes known are).0 in
    record {
      alone = (alone format track known).sectors;
      own = λ s data_of zeros from count after place here.
          ((only format (disk_id format image) track bytes zeros from count after known are).sectors
          place s data_of here).1;
      stands = λ s from count place one lies.
          stand format (disk_id format image) track bytes s from count place known are
          (one.least, one.most)
          (subst
          (λ (n : ℕ).
          LiesAt n (place_in_ring format track s) (frame_cells format) from count place) size
          lies);
      whole = λ s one.
          (let fits = (whole format (disk_id format image) track bytes s known are
          (one.least, one.most)).0 in
          omega (arith, fits, size));
      some = cells format;
    }

-- a track of a format with these bytes of its sectors, on a disk with this id
abbrev written_with : Format → DiskId → TrackId → List ℕ → WrittenTrack
written_with format id track bytes = record {
  ring = ring_at format id track bytes;
  begin_of = place_in_ring format track;
  frame_cells = frame_cells format;
  first = (sectors_of format track).first;
  sectors = (sectors_of format track).count;
  bytes_of = bytes_of (row format).first_sector (row format).sector_size bytes;
}

module _ (alone : RewrittenStandAlone) (only : OnlyOwnDataStand) (stand : SectorsStandToo)
    (whole : FramesAreWhole) (cells : FramesHaveCells) (rings : RingsHaveCells) where
  own_with : (format : Format) (id : DiskId) (track : TrackId) (bytes : List ℕ)
      → IsTrack format track → AreTrackBytes format track bytes
      → IsReadWithin START_ZEROS (SectorStandsBy (header_at format track) (data_at format))
      (written_with format id track bytes)
  own_with format id track bytes known are =
      let size : length (ring_at format id track bytes) ≡ (zone format track.cylinder).ring_cells =
      (rings format id track bytes known are).0 in
      record {
        alone = (alone format track).sectors;
        own = λ s data_of zeros from count after place here.
            (only format id track bytes zeros from count after known are place s data_of here).1;
        stands = λ s from count place one lies.
            stand format id track bytes s from count place known are (one.least, one.most)
            (subst
            (λ (n : ℕ).
            LiesAt n (place_in_ring format track s) (frame_cells format) from count place) size
            lies);
        whole = λ s one.
            (let fits = (whole format id track bytes s known are (one.least, one.most)).0 in
            omega (arith, fits, size));
        some = cells format;
      }

  -- an Apple disk's ring is the same as controllers read it
  own_too : (format : Format) (id : DiskId) (track : TrackId) (bytes : List ℕ)
      → IsTrack format track → AreTrackBytes format track bytes
      → IsReadWithin START_ZEROS
      (SectorStandsBy (header_at (as_controllers_read format) track)
      (data_at (as_controllers_read format))) (written_with format id track bytes)
  own_too AppleDo id track bytes known are = own_with AppleDos33 id track bytes known are
  own_too ApplePo id track bytes known are = own_with AppleProdos id track bytes known are
  own_too format id track bytes known are = own_with format id track bytes known are

  pub rewritten_are_own : NumbersNameTracks → SectorsLieInImages → RewrittenTracksAreOwn
  rewritten_are_own names lie format image k is below =
      let track : TrackId = track_at format k in
      let named = names format k below in
      let known : IsTrack format track =
      subst (IsTrack format)
      (sym
      (ap (λ (t : Option TrackId). unwrap_or t (record { cylinder = 0; head = 0 })) named.1))
      named.2 in
      own_too format (disk_id format image) track (track_bytes format track image) known
      (are_sectors lie format track image is known)
