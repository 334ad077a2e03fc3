-- Where the sync of a header, three marks and the byte FE, stands in a ring: only
-- where a sector's header begins.
use Rattle.std.specs.Prelude.{◌≡◌, ◌++◌, Bool, true, List, [], length, drop, Option, refl}
use Rattle.std.proofs.Common.{arith, inl, inr, lit≤}
use Rattle.flux_base.specs.declared.track.TrackId.{TrackId}
use Rattle.cell_bits.specs.Bytes.{mfm, mfm_cells}
use Rattle.cell_bits.specs.Word.{Stands, word_cells}
use Rattle.track_rings.specs.lemmas.Owning.{Leads}
use Rattle.track_rings.specs.Rings.{AreSectors}
use Rattle.track_rings.specs.Rows.{place_of}
use Rattle.track_rings.specs.lemmas.Syncs.{clashes}
use Rattle.frame_law.specs.lemmas.OwnFrames.{HasOwnSyncs}
use Rattle.mfm_coding.specs.lemmas.MarkPlaces.{mark_front}
use Rattle.ibm_disks.specs.Numbers.{FillMfmTrack, size_of}
use Rattle.ibm_fields.specs.Fields.{DATA_BYTE, ID_BYTE}
use Rattle.ibm_disks.specs.declared.track_numbers.TrackNumbers.{TrackNumbers}
use Rattle.ibm_mfm.specs.Layout.{row_size, rows_of}
use Rattle.ibm_mfm.specs.lemmas.MarkSyncs.{marks-lead, marks_before, marks_sync, only_in_marks}
use Rattle.ibm_mfm.specs.lemmas.MarkSyncs.{ring, spread, sync_after}
use Rattle.flux_base.specs.declared.header_name.HeaderName.{HeaderName}
use Rattle.ibm_mfm.specs.Sectors.{Names}
use Rattle.ibm_mfm.specs.lemmas.SyncLaws.{sync-joined}

unfoldable header_bits : List Bool
header_bits = word_cells 8 ID_BYTE

abbrev sync_rest : List (Option Bool)
sync_rest = drop 1 mark_front ++ sync_after header_bits

length-sync_rest : length sync_rest ≡ 62
unfolding sync_after spread header_bits word_cells
length-sync_rest = refl

-- a header begins with it
leads : (cells : List Bool) (name : HeaderName) → Stands cells 0x44894489 32 0 → Names cells name
    → Leads 1 sync_rest cells
unfolding spread header_bits word_cells
leads cells name begins named = marks-lead header_bits [] ID_BYTE cells 0 refl (lit≤ tt)
    (sync-joined cells 0 begins named.third) named.first

-- the data's first byte is another
not_in_data : clashes (marks_sync header_bits) (drop 1 (marks_before DATA_BYTE)) ≡ true
unfolding sync_after spread header_bits marks_before word_cells mfm mfm_cells clashes
not_in_data = refl

-- so in the ring it begins where headers do, after the zero with which the first mark begins
pub own_syncs : (disk : TrackNumbers) → FillMfmTrack disk → (track : TrackId) →
    HasOwnSyncs 0x44894489 32 160 disk.first_sector disk.sectors Names
    (place_of (row_size disk) disk.first_sector (size_of disk.size) (rows_of disk))
    (AreSectors disk.sectors (size_of disk.size)) (ring disk track)
own_syncs disk fills track = record {
  lead = 1;
  rest = sync_rest;
  short = omega (arith, length-sync_rest);
  leads = leads;
  only = only_in_marks header_bits disk fills track 1 (inl refl) (inr not_in_data);
}
