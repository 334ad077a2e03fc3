-- Where the sync of data, with their first byte, stands in a ring:
-- only where a sector's data begin.
use Rattle.std.specs.Prelude.{◌≡◌, ℕ, ◌+◌, drop, refl}
use Rattle.std.proofs.Common.{subst, arith, inl, inr, lit≤}
use Rattle.flux_base.specs.declared.track.TrackId.{TrackId}
use Rattle.cell_bits.specs.Word.{word_cells}
use Rattle.track_rings.specs.Rings.{AreSectors}
use Rattle.track_rings.specs.Rows.{place_of}
use Rattle.track_rings.specs.lemmas.Syncs.{Syncs}
use Rattle.frame_law.specs.lemmas.OwnData.{HasOwnDataSyncs}
use Rattle.commodore_gcr.specs.declared.recording.CommodoreGcr.{CommodoreGcr}
use Rattle.commodore_gcr.specs.Coding.{code_of, gcr}
use Rattle.commodore_gcr.specs.Layout.{ring_of, row_size, rows}
use Rattle.commodore_gcr.specs.Sectors.{DATA_BYTE, HEADER_BYTE, Hold, IsSync}
use Rattle.commodore_gcr.specs.lemmas.Syncs.{Differ, block_sync, both_begin_low, length-sync_rest}
use Rattle.commodore_gcr.specs.lemmas.Syncs.{only_in_syncs, sync-leads}
use Rattle.commodore_gcr.specs.Zones.{sectors_of, zone_of}

-- the header's first byte differs
not_in_header : Differ HEADER_BYTE DATA_BYTE
unfolding gcr code_of word_cells
not_in_header same = cc

-- so in the ring it begins where data do
pub own_data : (disk : CommodoreGcr) (track : TrackId)
    → HasOwnDataSyncs 70 2590 192 0 (sectors_of disk.drive track) (λ cells. 70) IsSync Hold
    (place_of (row_size (zone_of disk.drive track)) 0 256 rows)
    (AreSectors (sectors_of disk.drive track) 256) (ring_of disk track)
own_data disk track = record {
  lead = 0;
  pattern = block_sync DATA_BYTE;
  short = omega (arith, length-sync_rest DATA_BYTE);
  near = λ cells. lit≤ tt;
  leads = λ cells sync bytes stands hold.
      let e : sync ≡ sync + 0 = omega arith in
      subst (λ (n : ℕ). Syncs (block_sync DATA_BYTE) (drop n cells)) e
      (sync-leads DATA_BYTE cells sync stands hold.opens.1);
  only = λ bytes given place within test.
      let at = only_in_syncs DATA_BYTE both_begin_low.1 disk track 192 (inr not_in_header)
      (inl refl) bytes given place within test in
      (at.0, at.1, 192, inl refl, at.2);
}
