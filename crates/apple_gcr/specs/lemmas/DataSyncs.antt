-- Where the sync of data, the bytes D5 AA, stands in a ring: only where a
-- sector's header or data begin.
use Rattle.std.specs.Prelude.{ℕ, ◌+◌, ◌≤◌, refl}
use Rattle.std.proofs.Common.{arith, inl, inr, lit<}
use Rattle.flux_base.specs.declared.track.TrackId.{TrackId}
use Rattle.cell_bits.specs.Word.{word_cells}
use Rattle.track_rings.specs.Rings.{AreSectors}
use Rattle.track_rings.specs.Rows.{place_of}
use Rattle.track_rings.specs.lemmas.Syncs.{QuietPart, Syncs, clashes, clashes_at_all, fits}
use Rattle.frame_law.specs.lemmas.OwnData.{HasOwnDataSyncs, IsDataOffset}
use Rattle.apple_gcr.specs.Layout.{EPILOGUE, ring_of, row_size, rows}
use Rattle.apple_gcr.specs.Sectors.{Hold, IsAppleTrack, header_end}
use Rattle.apple_gcr.specs.lemmas.ByteLaws.{end-most}
use Rattle.apple_gcr.specs.lemmas.Syncs.{only_in_marks}
use Rattle.apple_nibbles.specs.Marks.{IsSync}
use Rattle.apple_nibbles.specs.lemmas.FieldSyncs.{Follows, data-leads, data_in_address_mark}
use Rattle.apple_nibbles.specs.lemmas.FieldSyncs.{data_in_data_mark, data_is, data_sync}
use Rattle.apple_nibbles.specs.lemmas.FieldSyncs.{length-data_sync, mark_quiet}

closes : QuietPart (Syncs data_sync) Follows Follows (word_cells 24 EPILOGUE)
unfolding data_sync word_cells clashes_at_all clashes fits
closes = mark_quiet data_sync data_is EPILOGUE (λ rest. refl) refl refl

-- so in the ring it begins where headers and data do
pub own_data : (passed : ℕ) → passed ≤ 7 → (track : TrackId) → IsAppleTrack track
    → HasOwnDataSyncs 88 2768 172 0 16 (header_end passed) IsSync (Hold passed)
    (place_of row_size 0 256 rows) (AreSectors 16 256) (ring_of track)
own_data passed few track known = record {
  lead = 0;
  pattern = data_sync;
  short = omega (arith, length-data_sync);
  near = λ cells. omega (arith, end-most passed few cells 24 8);
  leads = λ cells sync bytes stands hold. data-leads cells sync stands;
  only = only_in_marks data_sync data_is closes (IsDataOffset 88 172 0)
      (data_in_address_mark (IsDataOffset 88 172 0) (inr (lit< tt)))
      (data_in_data_mark (λ place. IsDataOffset 88 172 0 (172 + place)) (inl refl)) track known;
}
