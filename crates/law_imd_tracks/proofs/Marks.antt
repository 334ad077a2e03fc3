-- Data in a stretch of a track's repeated ring have the mark of data.
use Rattle.std.proofs.Common.{◌≡◌, ◌<◌, ◌+◌, ℕ, List, drop, arith}
use Rattle.cell_bits.specs.Bytes.{data_byte}
use Rattle.disk_recordings.specs.Laws.{AreTrackBytes}
use Rattle.disk_recordings.specs.Members.{data_at, header_at, ring_at}
use Rattle.disk_recordings.specs.Recordings.{DiskRecording, numbered_by}
use Rattle.either.specs.declared.Either.TheVariants.{Left, Right}
use Rattle.disk_recordings.specs.contracts.meaning.DiskRecordingMeaning.TheImpl.{ghosts}
use Rattle.disk_recordings.specs.declared.disk_id.DiskId.{DiskId}
use Rattle.flux_base.specs.declared.track.TrackId.{TrackId}
use Rattle.ibm_disks.specs.Disks.{rate_of, track_of_disk}
use Rattle.ibm_disks.specs.GapPlans.{FillAt, density_of}
use Rattle.ibm_disks.specs.Numbers.{size_of}
use Rattle.ibm_disks.specs.declared.disk.IbmDisk.{IbmDisk}
use Rattle.ibm_disks.specs.declared.rate.Density.{Density}
use Rattle.ibm_disks.specs.declared.rate.Density.TheVariants.{Single as SingleDensity}
use Rattle.ibm_disks.specs.declared.rate.Density.TheVariants.{Double as DoubleDensity}
use Rattle.ibm_disks.specs.declared.track_numbers.TrackNumbers.{TrackNumbers}
use Rattle.ibm_disks.specs.lemmas.DiskLaws.{all_have_disks}
use Rattle.ibm_fields.specs.Fields.{DATA_BYTE}
use Rattle.ibm_fm.specs.Disks.{IsFmTrack}
use Rattle.ibm_fm.specs.declared.recording.IbmFm.{IbmFm}
use Rattle.ibm_mfm.specs.Disks.{IsMfmTrack}
use Rattle.ibm_mfm.specs.Sectors.{FIRST_BYTE_PLACE}
use Rattle.ibm_mfm.specs.declared.heads.HeadNumbers.TheVariants.{Same}
use Rattle.ibm_mfm.specs.declared.recording.IbmMfm.{IbmMfm}
use Rattle.ibm_walks.specs.Headers.{mark_at}
use Rattle.sector_images.specs.Places.{IsTrack}
use Rattle.sector_images.specs.declared.format.Format.TheVariants.{Numbered}
use Rattle.track_rings.specs.OwnSectors.{between_zeros}
use Rattle.track_rings.specs.Rings.{AreSectors}

-- in any stretch of a track's repeated ring between zeros, by one recording
abbrev AreMarked : Density → DiskRecording → TrackId → (sectors size : ℕ) → Type 0
AreMarked density recording track sectors size = (bytes : List ℕ) (zeros from count behind place s at : ℕ) (xs : List ℕ) → AreSectors sectors size bytes
    → let cells = drop place (between_zeros (ghosts.ring recording track bytes) zeros from count behind) in
    ghosts.header_at recording track cells s → ghosts.data_at recording cells at xs → mark_at density cells at ≡ DATA_BYTE

abbrev SingleAreMarked : Type 0
SingleAreMarked = (r : IbmFm) (track : TrackId) (bytes : List ℕ) (zeros from count behind place s at : ℕ) (xs : List ℕ) → IsFmTrack r track
    → AreSectors r.numbers.sectors (size_of r.numbers.size) bytes
    → let cells = drop place (between_zeros (ghosts.ring (Left r) track bytes) zeros from count behind) in
    ghosts.header_at (Left r) track cells s → ghosts.data_at (Left r) cells at xs → data_byte cells at ≡ DATA_BYTE

abbrev DoubleAreMarked : Type 0
DoubleAreMarked = (r : IbmMfm) (track : TrackId) (bytes : List ℕ) (zeros from count behind place s at : ℕ) (xs : List ℕ) → IsMfmTrack r track
    → AreSectors r.numbers.sectors (size_of r.numbers.size) bytes
    → let cells = drop place (between_zeros (ghosts.ring (Right (Left r)) track bytes) zeros from count behind) in
    ghosts.header_at (Right (Left r)) track cells s → ghosts.data_at (Right (Left r)) cells at xs → data_byte cells (at + FIRST_BYTE_PLACE) ≡ DATA_BYTE

module _ (single : SingleAreMarked) (double : DoubleAreMarked) where
  by_density : (density : Density) (t : TrackNumbers) (track : TrackId) → FillAt density t → track.cylinder < 100 → track.head < 2
      → AreMarked density (numbered_by density t) track t.sectors (size_of t.size)
  by_density SingleDensity t track fills cylinder head bytes zeros from count behind place s at xs given header held =
      single (record { numbers = t }) track bytes zeros from count behind place s at xs (record { fills = fills; cylinder = cylinder; head = head }) given header held
  by_density DoubleDensity t track fills cylinder head bytes zeros from count behind place s at xs given header held =
      double (record { numbers = t; heads = Same }) track bytes zeros from count behind place s at xs (record { fills = fills; cylinder = cylinder; head = head }) given header held

  -- of a disk
  pub marked : (disk : IbmDisk) (id : DiskId) (track : TrackId) (bytes : List ℕ) (zeros from count behind place s at : ℕ) (xs : List ℕ) → IsTrack (Numbered disk) track
      → AreTrackBytes (Numbered disk) track bytes
      → let cells = drop place (between_zeros (ring_at (Numbered disk) id track bytes) zeros from count behind) in
      header_at (Numbered disk) track cells s → data_at (Numbered disk) cells at xs → mark_at (density_of (rate_of disk)) cells at ≡ DATA_BYTE
  marked disk id track bytes zeros from count behind place s at xs known given header held =
      let has = all_have_disks disk in
      by_density (density_of (rate_of disk)) (track_of_disk disk) track has.fills.0 (omega (arith, has.few_cylinders, known.0)) (omega (arith, has.few_heads, known.1)) bytes zeros
      from count behind place s at xs given header held
