-- The sums of a track's rows, its numbers, and that tracks end with a zero.
use Rattle.std.specs.Prelude.{◌≡◌, ℕ, ◌+◌, ◌*◌, ◌≤◌, Bool, true, false, ◌&&◌, [], refl, Some}
use Rattle.std.proofs.Common.{◌∙◌, arith, lit<, lit≤}
use Rattle.ibm_fields.specs.Fields.{size_of_code}
use Rattle.flux_base.specs.Bounds.{LONGEST_RING, MOST_SECTOR_BYTES}
use Rattle.flux_base.specs.declared.track.TrackId.{TrackId}
use Rattle.frame_law.specs.Frames.{IsWithinReach}
use Rattle.track_rings.specs.Rows.{frame_size, last_of, pitch_of, ring_size, rows_cells, total}
use Rattle.ibm_disks.specs.Numbers.{FillMfmTrack, code_of, mfm_around, mfm_before, size_of}
use Rattle.ibm_disks.specs.declared.sector_size.SectorSize.{SectorSize}
use Rattle.ibm_disks.specs.declared.sector_size.SectorSize.TheVariants.{Bytes128, Bytes256}
use Rattle.ibm_disks.specs.declared.sector_size.SectorSize.TheVariants.{Bytes512, Bytes1024}
use Rattle.ibm_disks.specs.declared.track_numbers.LeadIn.{LeadIn}
use Rattle.ibm_disks.specs.declared.track_numbers.LeadIn.TheVariants.{Indexed, Bare}
use Rattle.ibm_disks.specs.declared.track_numbers.TrackNumbers.{TrackNumbers}
use Rattle.ibm_disks.specs.lemmas.NumberLaws.{cells-fill, size-least, size-most}
use Rattle.mfm_coding.specs.declared.symbol.Symbol.TheVariants.{Data}
use Rattle.mfm_coding.specs.lemmas.CodingLaws.{last_bit, run-bit}
use Rattle.mfm_coding.specs.lemmas.SymbolRows.{rows-end, rows_symbols}
use Rattle.ibm_mfm.specs.Disks.{IsMfmTrack, named_track}
use Rattle.ibm_mfm.specs.declared.heads.HeadNumbers.{HeadNumbers}
use Rattle.ibm_mfm.specs.declared.heads.HeadNumbers.TheVariants.{Same, Exchanged}
use Rattle.ibm_mfm.specs.declared.recording.IbmMfm.{IbmMfm}
use Rattle.ibm_mfm.specs.Layout.{lead_in_rows, row_cells, row_size, row_symbols, rows_of}
use Rattle.ibm_mfm.specs.Layout.{track_gap_of}
use Rattle.ibm_mfm.specs.Sectors.{DATA_CELLS}

-- the code of a size tells it
pub size_told : (size : SectorSize) → size_of_code (code_of size) ≡ Some (size_of size)
size_told Bytes128 = refl
size_told Bytes256 = refl
size_told Bytes512 = refl
size_told Bytes1024 = refl

pub within_reach : (size : SectorSize) → IsWithinReach 160 704 (DATA_CELLS (size_of size))
within_reach size = record { after = lit≤ tt; near = lit< tt; few = omega (arith, size-most size) }

pub header_short : (size : SectorSize) → 160 ≤ DATA_CELLS (size_of size)
header_short size = omega (arith, size-least size)

-- the track that headers name is one too
named_by : (heads : HeadNumbers) (recording : IbmMfm) (track : TrackId) → IsMfmTrack recording track
    → IsMfmTrack recording (named_track heads track)
named_by Same recording track known = known
named_by Exchanged recording track known =
    record { fills = known.fills; cylinder = known.cylinder; head = omega arith }

pub named_known : (recording : IbmMfm) (track : TrackId) → IsMfmTrack recording track
    → IsMfmTrack recording (named_track recording.heads track)
named_known recording track known = named_by recording.heads recording track known

module _ (disk : TrackNumbers) where
  lead_in-size : (kind : LeadIn)
      → total (row_size disk 0) (lead_in_rows kind) ≡ 16 * mfm_before kind
  unfolding total
  lead_in-size Indexed = refl
  lead_in-size Bare = refl

  pitch-size : pitch_of (row_size disk) (size_of disk.size) (rows_of disk)
      ≡ 16 * (mfm_around disk.lead_in + size_of disk.size + disk.sector_gap)
  unfolding total
  pitch-size = omega arith

  framed : frame_size (row_size disk) (size_of disk.size) (rows_of disk)
      ≡ 704 + DATA_CELLS (size_of disk.size)
  unfolding total
  framed = omega arith

  module _ (fills : FillMfmTrack disk) where
    pub counts : (1 ≤ disk.sectors) × (disk.first_sector + disk.sectors ≤ 256)
        × (size_of disk.size ≤ MOST_SECTOR_BYTES)
    counts = (fills.some, fills.few, size-most disk.size)

    filled : ring_size (row_size disk) disk.sectors (size_of disk.size) (rows_of disk)
        ≡ 16 * disk.bytes
    unfolding total
    filled =
        let all = cells-fill (mfm_before disk.lead_in)
        (mfm_around disk.lead_in + size_of disk.size + disk.sector_gap) disk.sectors disk.bytes
        (total (row_size disk 0) (lead_in_rows disk.lead_in))
        (pitch_of (row_size disk) (size_of disk.size) (rows_of disk))
        (lead_in-size disk.lead_in)
        pitch-size fills.within in
        omega (arith, all)

    pub sums
        : (frame_size (row_size disk) (size_of disk.size) (rows_of disk)
        ≡ 704 + DATA_CELLS (size_of disk.size))
        × (ring_size (row_size disk) disk.sectors (size_of disk.size) (rows_of disk)
        ≡ 16 * disk.bytes)
        × (16 * disk.bytes ≤ LONGEST_RING)
    sums = (framed, filled, omega (arith, fills.short))

    pub last_zero : (track : TrackId) (before : Bool)
        → last_bit before
        (rows_symbols (row_symbols disk track) disk.first_sector [] (rows_of disk).lead_out)
        ≡ false
    last_zero track before =
        run-bit (Data 0x4E) (track_gap_of disk) before (omega (arith, fills.within))

    pub ends : (track : TrackId) (before : Bool)
        → (true
        && last_of before
        (rows_cells true (row_cells disk track) before disk.first_sector []
        (rows_of disk).lead_out))
        ≡ false
    ends track before =
        rows-end (row_symbols disk track) before disk.first_sector [] (rows_of disk).lead_out
        ∙ last_zero track before
