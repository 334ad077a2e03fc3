-- Where an address mark stands in a ring: only where a sector's header begins.
use Rattle.std.specs.Prelude.{◌≡◌, ℕ, zero, suc, ◌+◌, ◌<◌, ◌≤◌, Bool, false, List, [], ◌∷◌, ◌++◌}
use Rattle.std.specs.Prelude.{length, map, Option, refl}
use Rattle.std.specs.List.{flat_map, range_with_len}
use Rattle.std.proofs.Common.{arith, inl, inr, lit<, lit≤}
use Rattle.flux_base.specs.declared.track.TrackId.{TrackId}
use Rattle.cell_bits.specs.Word.{word_cells}
use Rattle.track_rings.specs.Rings.{AreSectors, bytes_of, AreBytes}
use Rattle.track_rings.specs.lemmas.RowSyncs.{places-in_ring}
use Rattle.track_rings.specs.lemmas.Owning.{IsPlaceIn}
use Rattle.cell_bits.specs.lemmas.WordLaws.{length-word_cells}
use Rattle.frame_law.specs.lemmas.OwnData.{HasOwnDataSyncs, IsDataOffset}
use Rattle.track_rings.specs.Rows.{TrackRow, coded, part_cells, parts_of, place_of}
use Rattle.track_rings.specs.Rows.{ring_of as ring_of_rows, rows_cells, sector_parts, sector_rows}
use Rattle.track_rings.specs.Rows.{total, track_parts}
use Rattle.track_rings.specs.lemmas.SectorParts.{AreBytes-from, bytes_of-fit}
use Rattle.track_rings.specs.lemmas.Syncs.{Only, QuietPart, SyncPart, Syncs, clashes}
use Rattle.track_rings.specs.lemmas.Syncs.{clashes_at_all, fits, part-skip}
use Rattle.frame_law.specs.lemmas.OwnFrames.{HasOwnSyncs}
use Rattle.apple_nibbles.specs.Marks.{ADDRESS_MARK, DATA_MARK, IsSync, self_syncs}
use Rattle.apple_nibbles.specs.Nibbles.{nibble}
use Rattle.apple_nibbles.specs.lemmas.FieldSyncs.{AreQuiet, Follows, IsMarkSync, data-leads}
use Rattle.apple_nibbles.specs.lemmas.FieldSyncs.{data_in_address_mark, data_in_data_mark, data_is}
use Rattle.apple_nibbles.specs.lemmas.FieldSyncs.{data_sync, fields_part, length-data_sync}
use Rattle.apple_nibbles.specs.lemmas.FieldSyncs.{address_is, address_mark_first, address_sync}
use Rattle.apple_nibbles.specs.lemmas.FieldSyncs.{bytes_quiet, data_mark_quiet, leads}
use Rattle.apple_nibbles.specs.lemmas.FieldSyncs.{length-sync_rest, mark_quiet, rows_quiet}
use Rattle.apple_nibbles.specs.lemmas.FieldSyncs.{self_syncs_quiet, sync_rest}
use Rattle.macintosh_gcr.specs.Coding.{AreSixBits}
use Rattle.macintosh_gcr.specs.Layout.{EPILOGUE, field_values, format_of, gap_syncs, nibble_cells}
use Rattle.macintosh_gcr.specs.Layout.{ring_of, row_cells, row_size, rows}
use Rattle.macintosh_gcr.specs.Sectors.{Hold, IsMacintoshTrack, Names, header_values, sectors_of}
use Rattle.macintosh_gcr.specs.Sectors.{zone_of}
use Rattle.macintosh_gcr.specs.declared.layout.Mark.TheVariants.{AddressField, DataField, Epilogue}
use Rattle.macintosh_gcr.specs.declared.layout.Row.{Row}
use Rattle.macintosh_gcr.specs.declared.layout.Row.TheVariants.{SelfSyncs, Mark as AMark, Header}
use Rattle.macintosh_gcr.specs.declared.layout.Row.TheVariants.{Content, ZoneGap}
use Rattle.macintosh_gcr.specs.declared.recording.MacintoshGcr.{MacintoshGcr}
use Rattle.macintosh_gcr.specs.lemmas.RowLaws.{field-fit, header-fit, length-self_syncs, low-sector}
use Rattle.macintosh_gcr.specs.lemmas.RowLaws.{row_length}
use Rattle.macintosh_gcr.specs.lemmas.Values.{field-nibbles}
use Rattle.macintosh_gcr.specs.lemmas.ZoneLaws.{counts}

-- all rows but the marks that open fields
IsOther : Row → Type 0
IsOther (SelfSyncs count) = Unit {0}
IsOther (AMark AddressField) = ⊥
IsOther (AMark DataField) = ⊥
IsOther (AMark Epilogue) = Unit {0}
IsOther Header = Unit {0}
IsOther Content = Unit {0}
IsOther ZoneGap = Unit {0}

module _ (sync : List (Option Bool)) (is : IsMarkSync sync)
    (closes : QuietPart (Syncs sync) Follows Follows (word_cells 24 EPILOGUE)) where
  nibbles_quiet : (values : List ℕ) → AreSixBits values
      → QuietPart (Syncs sync) Follows Follows (nibble_cells values)
  nibbles_quiet values fit = bytes_quiet sync is (map nibble values) (field-nibbles values fit)

  module _ (disk : MacintoshGcr) (track : TrackId) (sector : ℕ) (bytes : List ℕ)
      (known : IsMacintoshTrack disk track) (few : sector < 64)
      (fit : AreBytes bytes) where
    row_quiet : (before : Bool) (row : Row) → IsOther row
        → QuietPart (Syncs sync) Follows Follows (row_cells disk track before sector bytes row)
    unfolding IsOther
    row_quiet before (SelfSyncs count) other = self_syncs_quiet sync is count
    row_quiet before (AMark AddressField) other = absurd other
    row_quiet before (AMark DataField) other = absurd other
    row_quiet before (AMark Epilogue) other = closes
    row_quiet before Header other = nibbles_quiet (header_values track sector (format_of disk))
        (header-fit disk track sector known few)
    row_quiet before Content other =
        nibbles_quiet (field_values sector bytes) (field-fit sector bytes few fit)
    row_quiet before ZoneGap other = self_syncs_quiet sync is (gap_syncs (zone_of track))

    others_quiet : (before : Bool) (some : List Row) → AreQuiet IsOther some
        → QuietPart (Syncs sync) Follows Follows
        (rows_cells false (row_cells disk track) before sector bytes some)
    others_quiet before some others =
        rows_quiet sync IsOther (row_cells disk track) sector bytes row_quiet before some others

    sector_part : (At : ℕ → Type 0)
        → SyncPart (Syncs sync) At Follows Follows (word_cells 24 ADDRESS_MARK)
        → SyncPart (Syncs sync) (λ place. At (148 + place)) Follows Follows
        (word_cells 24 DATA_MARK)
        → (before : Bool)
        → SyncPart (Syncs sync) (λ place. (offset : ℕ) × At offset × (place ≡ 160 + offset)) Follows
        Follows
        (rows_cells false (row_cells disk track) before sector bytes (sector_rows rows))
    unfolding rows_cells coded IsOther
    sector_part At address_part data_part before =
        let last =
        rows_cells false (row_cells disk track) false sector bytes (Content ∷ rows.after) in
        let gap = self_syncs 6 in
        let close = word_cells 24 EPILOGUE in
        let header = nibble_cells (header_values track sector (format_of disk)) in
        let size : length header ≡ 40 = row_length disk track false sector bytes Header in
        let close_size : length close ≡ 24 = length-word_cells 24 EPILOGUE in
        let gap_size : length gap ≡ 60 = length-self_syncs 6 in
        let framed = fields_part sync is At header close gap last 148
        (omega (arith, size, close_size, gap_size)) address_part data_part
        (row_quiet false Header tt) closes (self_syncs_quiet sync is 6)
        (others_quiet false (Content ∷ rows.after) (tt, (tt, tt))) in
        part-skip (Syncs sync) (λ place. (offset : ℕ) × At offset × (place ≡ 160 + offset)) Follows
        Follows Follows (self_syncs 16)
        (word_cells 24 ADDRESS_MARK
        ++ (header ++ (close ++ (gap ++ (word_cells 24 DATA_MARK ++ last)))))
        (self_syncs_quiet sync is 16)
        (λ rest follows.
        let at = framed rest follows in (
          (λ place within test.
              (place, at.0 place within test, omega (arith, length-self_syncs 16))),
          at.1,
        ))

-- a ring begins with self-syncs
sectors_follow : (disk : MacintoshGcr) (track : TrackId) (bytes : List ℕ) (count : ℕ)
    (rest : List (TrackRow Row))
    → 1 ≤ count
    → Follows
    (coded false (part_cells (row_cells disk track)) false
    (flat_map (sector_parts 0 512 bytes rows) (range_with_len 0 count) ++ rest))
unfolding coded sector_parts Follows word_cells fits
sectors_follow disk track bytes zero rest some = absurd (omega arith)
sectors_follow disk track bytes (suc count) rest some = inr refl

ring_follows : (disk : MacintoshGcr) (track : TrackId) (bytes : List ℕ)
    → Follows (ring_of disk track bytes)
unfolding ring_of_rows track_parts
ring_follows disk track bytes = sectors_follow disk track bytes (sectors_of track)
    (parts_of 0 [] rows.lead_out) (counts track).0

-- so in the ring it begins at such places only after the begin of a sector's header
only_in_marks : (sync : List (Option Bool)) → IsMarkSync sync
    → QuietPart (Syncs sync) Follows Follows (word_cells 24 EPILOGUE) → (At : ℕ → Type 0)
    → SyncPart (Syncs sync) At Follows Follows (word_cells 24 ADDRESS_MARK)
    → SyncPart (Syncs sync) (λ place. At (148 + place)) Follows Follows (word_cells 24 DATA_MARK)
    → (disk : MacintoshGcr) (track : TrackId) → IsMacintoshTrack disk track → (bytes : List ℕ)
    → AreSectors (sectors_of track) 512 bytes
    → Only (Syncs sync)
    (IsPlaceIn (place_of (row_size (zone_of track)) 0 512 rows) 0 (sectors_of track) At)
    (ring_of disk track bytes) (ring_of disk track bytes)
unfolding total rows_cells coded IsOther AreBytes
only_in_marks sync is closes At address_part data_part disk track known bytes given =
    places-in_ring false (row_cells disk track) (row_size (zone_of track)) (row_length disk track) 0
    (sectors_of track) 512 rows bytes given.whole
    (Syncs sync) Follows At
    (λ before s number.
    sector_part sync is closes disk track s (bytes_of 0 512 bytes s) known
    (low-sector track s number.most)
    (AreBytes-from (bytes_of 0 512 bytes s) (bytes_of-fit 0 512 bytes s given.fit)) At address_part
    data_part before)
    (others_quiet sync is closes disk track 0 [] known (lit< tt) tt false [] tt)
    (λ before.
    others_quiet sync is closes disk track 0 [] known (lit< tt) tt before rows.lead_out
    (tt, tt)) (ring_follows disk track bytes)

-- the mark of a header
closes_header : QuietPart (Syncs address_sync) Follows Follows (word_cells 24 EPILOGUE)
unfolding sync_rest word_cells clashes_at_all clashes fits
closes_header = mark_quiet address_sync address_is EPILOGUE (λ rest. refl) refl refl

-- it begins where headers do
pub own_syncs : (disk : MacintoshGcr) (track : TrackId) → IsMacintoshTrack disk track
    → HasOwnSyncs 0xD5AA96 24 64 0 (sectors_of track) Names
    (place_of (row_size (zone_of track)) 0 512 rows)
    (AreSectors (sectors_of track) 512) (ring_of disk track)
own_syncs disk track known = record {
  lead = 0;
  rest = sync_rest;
  short = omega (arith, length-sync_rest);
  leads = λ cells s stands named. leads cells stands;
  only = λ bytes given place within test.
      let at = only_in_marks address_sync address_is closes_header (λ offset. offset ≡ 0)
      address_mark_first
      (λ rest follows.
      (let one = data_mark_quiet rest follows in
      ((λ here inside stands. absurd (one.0 here inside stands)), one.1)))
      disk track known bytes given place within test in
      (at.0, at.1, omega (arith, at.3, at.4));
}

-- the sync of data
closes_data : QuietPart (Syncs data_sync) Follows Follows (word_cells 24 EPILOGUE)
unfolding data_sync word_cells clashes_at_all clashes fits
closes_data = mark_quiet data_sync data_is EPILOGUE (λ rest. refl) refl refl

-- it begins where headers and data do
pub own_data : (disk : MacintoshGcr) (track : TrackId) → IsMacintoshTrack disk track
    → HasOwnDataSyncs 64 5656 148 0 (sectors_of track) (λ cells. 64) IsSync Hold
    (place_of (row_size (zone_of track)) 0 512 rows)
    (AreSectors (sectors_of track) 512) (ring_of disk track)
own_data disk track known = record {
  lead = 0;
  pattern = data_sync;
  short = omega (arith, length-data_sync);
  near = λ cells. lit≤ tt;
  leads = λ cells sync bytes stands hold. data-leads cells sync stands;
  only = only_in_marks data_sync data_is closes_data (IsDataOffset 64 148 0)
      (data_in_address_mark (IsDataOffset 64 148 0) (inr (lit< tt)))
      (data_in_data_mark (λ place. IsDataOffset 64 148 0 (148 + place)) (inl refl)) disk track
      known;
}
