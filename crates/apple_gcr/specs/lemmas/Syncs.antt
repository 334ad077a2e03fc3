-- Where a sync that begins with the byte D5 stands in a ring, and of them an address mark: only
-- where a sector's header begins.
use Rattle.std.specs.Prelude.{◌≡◌, ℕ, ◌+◌, ◌<◌, Bool, false, List, [], ◌∷◌, length, Option}
use Rattle.std.specs.Prelude.{flat_map, refl}
use Rattle.std.proofs.Common.{sym, subst, arith, inr, lit<}
use Rattle.flux_base.specs.declared.track.TrackId.{TrackId}
use Rattle.cell_bits.specs.Word.{word_cells}
use Rattle.cell_bits.specs.lemmas.WordLaws.{length-word_cells}
use Rattle.track_rings.specs.lemmas.Owning.{IsPlaceIn}
use Rattle.track_rings.specs.Rings.{AreSectors, bytes_of, AreBytes}
use Rattle.track_rings.specs.lemmas.RowSyncs.{places-in_ring}
use Rattle.track_rings.specs.Rows.{coded, place_of, ring_of as ring_of_rows, rows_cells}
use Rattle.track_rings.specs.Rows.{sector_rows, total, track_parts}
use Rattle.track_rings.specs.lemmas.SectorParts.{AreBytes-from, bytes_of-fit}
use Rattle.track_rings.specs.lemmas.Syncs.{Only, QuietPart, SyncPart, Syncs, clashes}
use Rattle.track_rings.specs.lemmas.Syncs.{clashes_at_all, fits}
use Rattle.frame_law.specs.lemmas.OwnFrames.{HasOwnSyncs}
use Rattle.apple_gcr.specs.declared.layout.Mark.TheVariants.{AddressField, DataField, Epilogue}
use Rattle.apple_gcr.specs.declared.layout.Row.{Row}
use Rattle.apple_gcr.specs.declared.layout.Row.TheVariants.{SelfSyncs, Mark as AMark, Address}
use Rattle.apple_gcr.specs.declared.layout.Row.TheVariants.{Content}
use Rattle.apple_gcr.specs.FourAndFour.{four_and_four}
use Rattle.apple_gcr.specs.lemmas.HalfLaws.{AreFieldBytes-halves, address_cells, in_halves}
use Rattle.apple_gcr.specs.Layout.{EPILOGUE, address_of, ring_of, row_cells, row_size, rows}
use Rattle.apple_gcr.specs.lemmas.RowLaws.{address-fits, row_length}
use Rattle.apple_gcr.specs.Sectors.{IsAppleTrack, Names}
use Rattle.apple_gcr.specs.SixAndTwo.{data_nibbles}
use Rattle.apple_gcr.specs.lemmas.ValueLaws.{data_nibbles-are}
use Rattle.apple_nibbles.specs.Marks.{ADDRESS_MARK, DATA_MARK, self_syncs}
use Rattle.apple_nibbles.specs.lemmas.FieldSyncs.{AreQuiet, Follows, IsMarkSync, address_is}
use Rattle.apple_nibbles.specs.lemmas.FieldSyncs.{address_mark_first, address_sync, bytes_quiet}
use Rattle.apple_nibbles.specs.lemmas.FieldSyncs.{data_mark_quiet, fields_part, leads}
use Rattle.apple_nibbles.specs.lemmas.FieldSyncs.{length-sync_rest, mark_quiet, rows_quiet}
use Rattle.apple_nibbles.specs.lemmas.FieldSyncs.{self_syncs_quiet, sync_rest}

-- all rows but the marks that open fields
IsOther : Row → Type 0
IsOther (SelfSyncs count) = Unit {0}
IsOther (AMark AddressField) = ⊥
IsOther (AMark DataField) = ⊥
IsOther (AMark Epilogue) = Unit {0}
IsOther Address = Unit {0}
IsOther Content = Unit {0}

ring_follows : (track : TrackId) (bytes : List ℕ) → Follows (ring_of track bytes)
unfolding Follows ring_of_rows track_parts coded word_cells fits
ring_follows track bytes = inr refl

-- A sync that does not begin in epilogues, and in the marks that open fields at such places only,
-- counted from a header's begin.
module _ (sync : List (Option Bool)) (is : IsMarkSync sync)
    (closes : QuietPart (Syncs sync) Follows Follows (word_cells 24 EPILOGUE))
    (At : ℕ → Type 0)
    (address_part : SyncPart (Syncs sync) At Follows Follows (word_cells 24 ADDRESS_MARK))
    (data_part : SyncPart (Syncs sync) (λ place. At (172 + place)) Follows Follows
    (word_cells 24 DATA_MARK)) where
  module _ (track : TrackId) (sector : ℕ) (bytes : List ℕ) (known : IsAppleTrack track)
      (few : sector < 16) (fit : AreBytes bytes) where
    row_quiet : (before : Bool) (row : Row) → IsOther row
        → QuietPart (Syncs sync) Follows Follows (row_cells track before sector bytes row)
    unfolding IsOther
    row_quiet before (SelfSyncs count) other = self_syncs_quiet sync is count
    row_quiet before (AMark AddressField) other = absurd other
    row_quiet before (AMark DataField) other = absurd other
    row_quiet before (AMark Epilogue) other = closes
    row_quiet before Address other =
        subst (QuietPart (Syncs sync) Follows Follows) (sym (address_cells track sector))
        (bytes_quiet sync is (in_halves (address_of track sector))
        (AreFieldBytes-halves (address_of track sector) (address-fits track sector known few)))
    row_quiet before Content other =
        bytes_quiet sync is (data_nibbles bytes) (data_nibbles-are bytes fit)

    others_quiet : (before : Bool) (some : List Row) → AreQuiet IsOther some
        → QuietPart (Syncs sync) Follows Follows
        (rows_cells false (row_cells track) before sector bytes some)
    others_quiet before some others =
        rows_quiet sync IsOther (row_cells track) sector bytes row_quiet before some others

    sector_part : (before : Bool)
        → SyncPart (Syncs sync) (λ place. (offset : ℕ) × At offset × (place ≡ 0 + offset)) Follows
        Follows
        (rows_cells false (row_cells track) before sector bytes (sector_rows rows))
    unfolding rows_cells coded IsOther
    sector_part before rest follows =
        let last = rows_cells false (row_cells track) false sector bytes (Content ∷ rows.after) in
        let gap = self_syncs 6 in
        let close = word_cells 24 EPILOGUE in
        let address = flat_map four_and_four (address_of track sector) in
        let size : length address ≡ 64 = row_length track false sector bytes Address in
        let close_size : length close ≡ 24 = length-word_cells 24 EPILOGUE in
        let gap_size : length gap ≡ 60 = row_length track false sector bytes (SelfSyncs 6) in
        let framed = fields_part sync is At address close gap last 172
        (omega (arith, size, close_size, gap_size)) address_part data_part
        (row_quiet false Address tt) closes (self_syncs_quiet sync is 6)
        (others_quiet false (Content ∷ rows.after) (tt, (tt, (tt, tt)))) in
        let one = framed rest follows in
        (λ place within test. (place, one.0 place within test, omega arith), one.1)

  -- so in the ring it begins at such places only after the begin of a sector's header
  pub only_in_marks : (track : TrackId) → IsAppleTrack track → (bytes : List ℕ)
      → AreSectors 16 256 bytes
      → Only (Syncs sync) (IsPlaceIn (place_of row_size 0 256 rows) 0 16 At) (ring_of track bytes)
      (ring_of track bytes)
  unfolding total IsOther AreBytes
  only_in_marks track known bytes given =
      places-in_ring false (row_cells track) row_size (row_length track) 0 16 256 rows bytes
      given.whole (Syncs sync) Follows At
      (λ before s number.
      sector_part track s (bytes_of 0 256 bytes s) known (omega (arith, number.most))
      (AreBytes-from (bytes_of 0 256 bytes s) (bytes_of-fit 0 256 bytes s given.fit)) before)
      (others_quiet track 0 [] known (lit< tt) tt false rows.lead_in (tt, tt))
      (λ before. others_quiet track 0 [] known (lit< tt) tt before rows.lead_out tt)
      (ring_follows track bytes)

-- an address mark
closes_header : QuietPart (Syncs address_sync) Follows Follows (word_cells 24 EPILOGUE)
unfolding sync_rest word_cells clashes_at_all clashes fits
closes_header = mark_quiet address_sync address_is EPILOGUE (λ rest. refl) refl refl

in_data_mark : SyncPart (Syncs address_sync) (λ place. 172 + place ≡ 0) Follows Follows
    (word_cells 24 DATA_MARK)
in_data_mark rest follows =
    let one = data_mark_quiet rest follows in
    (λ place within test. absurd (one.0 place within test), one.1)

-- so in the ring it begins where headers do
pub own_syncs : (passed : ℕ) (track : TrackId) → IsAppleTrack track
    → HasOwnSyncs 0xD5AA96 24 88 0 16 (Names passed) (place_of row_size 0 256 rows)
    (AreSectors 16 256) (ring_of track)
own_syncs passed track known = record {
  lead = 0;
  rest = sync_rest;
  short = omega (arith, length-sync_rest);
  leads = λ cells s stands named. leads cells stands;
  only = λ bytes given place within test.
      let at = only_in_marks address_sync address_is closes_header (λ offset. offset ≡ 0)
      address_mark_first in_data_mark track known bytes given place within test in
      (at.0, at.1, omega (arith, at.3, at.4));
}
