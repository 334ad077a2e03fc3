-- Where the sync of data, three marks and the byte FB or F8, stands in a ring:
-- only where a sector's data begin.
use Rattle.std.specs.Prelude.{◌≡◌, ℕ, ◌+◌, Bool, true, false, List, ◌∷◌, length, drop, Some, refl}
use Rattle.std.proofs.Common.{subst, arith, inl, inr, lit≤}
use Rattle.std.proofs.lemmas.List.{drop-drop}
use Rattle.flux_base.specs.declared.track.TrackId.{TrackId}
use Rattle.cell_bits.specs.Bytes.{data_byte, mfm, mfm_cells}
use Rattle.cell_bits.specs.Word.{word_cells}
use Rattle.track_rings.specs.Rings.{AreSectors}
use Rattle.track_rings.specs.Rows.{place_of}
use Rattle.track_rings.specs.lemmas.Syncs.{Syncs, clashes, fits, fits-drop}
use Rattle.frame_law.specs.lemmas.OwnData.{HasOwnDataSyncs}
use Rattle.ibm_disks.specs.Numbers.{FillMfmTrack, size_of}
use Rattle.ibm_fields.specs.Fields.{DATA_BYTE, DELETED_DATA_BYTE, ID_BYTE}
use Rattle.ibm_disks.specs.declared.track_numbers.TrackNumbers.{TrackNumbers}
use Rattle.ibm_mfm.specs.Layout.{row_size, rows_of}
use Rattle.ibm_disks.specs.lemmas.NumberLaws.{size-least}
use Rattle.ibm_mfm.specs.lemmas.MarkSyncs.{marks-lead, marks_before, marks_sync, only_in_marks}
use Rattle.ibm_mfm.specs.lemmas.MarkSyncs.{ring, spread, sync_after}
use Rattle.ibm_mfm.specs.Sectors.{DATA_CELLS, Hold, OpensData}
use Rattle.ibm_mfm.specs.Syncs.{SyncAt}

-- the bits that both bytes begin with
unfoldable data_bits : List Bool
data_bits = word_cells 6 0x3E

length-sync : length (marks_sync data_bits) ≡ 59
unfolding sync_after spread data_bits word_cells
length-sync = refl

-- data begin with it
opens-fit : (cells : List Bool) (sync : ℕ) → SyncAt cells sync
    → OpensData (data_byte cells (sync + 48))
    → fits (Some false ∷ marks_sync data_bits) (drop sync cells) ≡ true
unfolding spread data_bits word_cells
opens-fit cells sync marks (inl first) = marks-lead data_bits (spread (word_cells 2 0xFB)) DATA_BYTE
    cells sync refl (lit≤ tt) marks first
opens-fit cells sync marks (inr first) = marks-lead data_bits (spread (word_cells 2 0xF8))
    DELETED_DATA_BYTE cells sync refl (lit≤ tt) marks first

leads : (cells : List Bool) (sync : ℕ) → SyncAt cells sync → OpensData (data_byte cells (sync + 48))
    → Syncs (marks_sync data_bits) (drop (sync + 1) cells)
leads cells sync marks opens =
    subst (λ (rest : List Bool). Syncs (marks_sync data_bits) rest) (drop-drop 1 sync cells)
    (fits-drop 1 (Some false ∷ marks_sync data_bits) (drop sync cells)
    (opens-fit cells sync marks opens))

-- a header's first byte is another
not_in_header : clashes (marks_sync data_bits) (drop 1 (marks_before ID_BYTE)) ≡ true
unfolding sync_after spread data_bits marks_before word_cells mfm mfm_cells clashes
not_in_header = refl

-- so in the ring it begins where data do, after the zero with which the first mark begins
pub own_data : (disk : TrackNumbers) → FillMfmTrack disk → (track : TrackId) →
    HasOwnDataSyncs 160 (DATA_CELLS (size_of disk.size)) 704 disk.first_sector disk.sectors
    (λ cells. 160) SyncAt (Hold (size_of disk.size))
    (place_of (row_size disk) disk.first_sector (size_of disk.size) (rows_of disk))
    (AreSectors disk.sectors (size_of disk.size)) (ring disk track)
own_data disk fills track = record {
  lead = 1;
  pattern = marks_sync data_bits;
  short = omega (arith, length-sync);
  near = λ cells. omega (arith, size-least disk.size);
  leads = λ cells sync bytes marks hold. leads cells sync marks hold.opens;
  only = λ bytes given place within test.
      let at = only_in_marks data_bits disk fills track 705 (inr not_in_header) (inl refl) bytes
      given place within test in
      (at.0, at.1, 705, inl refl, at.2);
}
