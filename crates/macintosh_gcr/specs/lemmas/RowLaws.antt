-- The cells of a row: how many they are, and how far their ones are apart.
use Rattle.std.specs.Prelude.{◌≡◌, ℕ, ◌+◌, ◌*◌, ◌/◌, ◌<◌, ◌≤◌, Bool, true, false, List, [], ◌∷◌}
use Rattle.std.specs.Prelude.{length, map, replicate, refl}
use Rattle.std.proofs.Common.{ap, ◌∙◌, arith, lit<}
use Rattle.std.proofs.lemmas.List.{length-replicate}
use Rattle.std.proofs.lemmas.Nat.{xor_lt}
use Rattle.std.specs.Int.Bits.{bit_xor}
use Rattle.flux_base.specs.declared.track.TrackId.{TrackId}
use Rattle.cell_bits.specs.Word.{word_cells}
use Rattle.cell_bits.specs.lemmas.WordLaws.{length-word_cells}
use Rattle.frame_law.specs.lemmas.WordRowLaws.{length-row}
use Rattle.track_rings.specs.Rings.{AreBytes}
use Rattle.track_rings.specs.Rows.{IsContent}
use Rattle.track_rings.specs.Spaced.{is_spaced}
use Rattle.apple_nibbles.specs.Marks.{SELF_SYNC, self_syncs}
use Rattle.apple_nibbles.specs.Nibbles.{nibble}
use Rattle.apple_nibbles.specs.lemmas.FieldSpacing.{FollowsAny, bytes-follow, follows}
use Rattle.apple_nibbles.specs.lemmas.FieldSpacing.{self_syncs-follow}
use Rattle.macintosh_gcr.specs.Coding.{AreSixBits, NO_SUMS, data_values, with_tags}
use Rattle.macintosh_gcr.specs.Layout.{field_values, format_of, gap_syncs, nibble_cells, row_cells}
use Rattle.macintosh_gcr.specs.Layout.{row_size, word_of}
use Rattle.macintosh_gcr.specs.Sectors.{checked, header_values, heads_of, IsMacintoshTrack}
use Rattle.macintosh_gcr.specs.Sectors.{low_value, named_values, sectors_of, side_value, zone_of}
use Rattle.macintosh_gcr.specs.declared.layout.Mark.{Mark}
use Rattle.macintosh_gcr.specs.declared.layout.Mark.TheVariants.{AddressField, DataField, Epilogue}
use Rattle.macintosh_gcr.specs.declared.layout.Row.{Row}
use Rattle.macintosh_gcr.specs.declared.layout.Row.TheVariants.{SelfSyncs, Mark as AMark, Header}
use Rattle.macintosh_gcr.specs.declared.layout.Row.TheVariants.{Content, ZoneGap}
use Rattle.macintosh_gcr.specs.declared.recording.MacintoshGcr.{MacintoshGcr}
use Rattle.macintosh_gcr.specs.declared.recording.MacintoshGcr.TheVariants.{SingleSided}
use Rattle.macintosh_gcr.specs.declared.recording.MacintoshGcr.TheVariants.{DoubleSided}
use Rattle.macintosh_gcr.specs.lemmas.CodingLaws.{data-fit, data-length, length-with_tags}
use Rattle.macintosh_gcr.specs.lemmas.CodingLaws.{nothing-fits, with_tags-fit}
use Rattle.macintosh_gcr.specs.lemmas.OwnLaws.{no_sums_fit}
use Rattle.macintosh_gcr.specs.lemmas.Values.{field-nibbles, length-nibble_cells, six-more}
use Rattle.macintosh_gcr.specs.lemmas.ZoneLaws.{few_sectors}

pub length-self_syncs : (count : ℕ) → length (self_syncs count) ≡ 10 * count
length-self_syncs count =
    length-row 10 (word_cells 10) (length-word_cells 10) (replicate count SELF_SYNC)
    ∙ ap (λ (n : ℕ). 10 * n) (length-replicate count SELF_SYNC)

pub length-field_values : (sector : ℕ) (bytes : List ℕ) → length (field_values sector bytes) ≡ 704
length-field_values sector bytes =
    let more = data-length 174 0 NO_SUMS (with_tags bytes) (length-with_tags bytes) in
    omega (arith, more)

pub row_length : (disk : MacintoshGcr) (track : TrackId) (before : Bool) (sector : ℕ)
    (bytes : List ℕ) (row : Row)
    → length (row_cells disk track before sector bytes row)
    ≡ row_size (zone_of track) (length bytes) row
row_length disk track before sector bytes (SelfSyncs count) = length-self_syncs count
row_length disk track before sector bytes (AMark mark) = length-word_cells 24 (word_of mark)
row_length disk track before sector bytes Header =
    length-nibble_cells (header_values track sector (format_of disk))
row_length disk track before sector bytes Content =
    length-nibble_cells (field_values sector bytes)
    ∙ ap (λ (n : ℕ). 8 * n) (length-field_values sector bytes)
row_length disk track before sector bytes ZoneGap = length-self_syncs (gap_syncs (zone_of track))

-- the values that are written have six bits
pub format-fits : (disk : MacintoshGcr) → format_of disk < 64
format-fits SingleSided = lit< tt
format-fits DoubleSided = lit< tt

pub few-heads : (disk : MacintoshGcr) → heads_of disk ≤ 2
few-heads SingleSided = omega arith
few-heads DoubleSided = omega arith

pub side-fits : (track : TrackId) → track.cylinder < 80 → track.head < 2
    → 32 * track.head + track.cylinder / 64 < 64
side-fits track known low =
    let cylinder : track.cylinder / 64 < 2 = omega (arith, known) in
    omega (arith, low, cylinder)

-- so do those of any header
pub values-fit : (low side sector format : ℕ) → low < 64 → side < 64 → sector < 64 → format < 64
    → AreSixBits (checked (named_values low side sector format))
values-fit low side sector format low_fits side_fits few small =
    let two : bit_xor (bit_xor 0 low) sector < 64 =
    xor_lt 6 (bit_xor 0 low) sector (xor_lt 6 0 low (lit< tt) low_fits) few in
    let check_value = bit_xor (bit_xor (bit_xor (bit_xor 0 low) sector) side) format in
    let check : check_value < 64 =
    xor_lt 6 (bit_xor (bit_xor (bit_xor 0 low) sector) side) format
    (xor_lt 6 (bit_xor (bit_xor 0 low) sector) side two side_fits) small in
    six-more low (sector ∷ side ∷ format ∷ check_value ∷ []) low_fits
    (six-more sector (side ∷ format ∷ check_value ∷ []) few
    (six-more side (format ∷ check_value ∷ []) side_fits
    (six-more format (check_value ∷ []) small (six-more check_value [] check nothing-fits))))

pub header-fit : (disk : MacintoshGcr) (track : TrackId) (sector : ℕ) → IsMacintoshTrack disk track
    → sector < 64
    → AreSixBits (header_values track sector (format_of disk))
header-fit disk track sector known few =
    values-fit (low_value track) (side_value track) sector (format_of disk) (omega arith)
    (side-fits track known.cylinder
    (let heads = few-heads disk in omega (arith, heads, known.head))) few (format-fits disk)

pub field-fit : (sector : ℕ) (bytes : List ℕ) → sector < 64 → AreBytes bytes
    → AreSixBits (field_values sector bytes)
field-fit sector bytes few fit = six-more sector (data_values 0 NO_SUMS (with_tags bytes)) few
    (data-fit 0 NO_SUMS (with_tags bytes) (lit< tt) no_sums_fit (with_tags-fit bytes fit))

pub low-sector : (track : TrackId) (sector : ℕ) → sector < 0 + sectors_of track → sector < 64
low-sector track sector within = omega (arith, few_sectors track, within)

mark-spaced : (mark : Mark) → is_spaced 1 3 2 (word_cells 24 (word_of mark)) ≡ true
unfolding is_spaced word_cells
mark-spaced AddressField = refl
mark-spaced DataField = refl
mark-spaced Epilogue = refl

nibbles-follow : (values : List ℕ) → AreSixBits values → FollowsAny (nibble_cells values)
nibbles-follow values fit = bytes-follow (map nibble values) (field-nibbles values fit)

pub row_follows : (disk : MacintoshGcr) (track : TrackId) (sector : ℕ) (bytes : List ℕ) (row : Row)
    → IsMacintoshTrack disk track
    → IsContent 0 (sectors_of track) 512 sector bytes
    → FollowsAny (row_cells disk track false sector bytes row)
row_follows disk track sector bytes (SelfSyncs count) known content = self_syncs-follow count
row_follows disk track sector bytes (AMark mark) known content =
    follows (word_cells 24 (word_of mark)) (mark-spaced mark)
row_follows disk track sector bytes Header known content =
    nibbles-follow (header_values track sector (format_of disk))
    (header-fit disk track sector known (low-sector track sector content.number.most))
row_follows disk track sector bytes Content known content =
    nibbles-follow (field_values sector bytes)
    (field-fit sector bytes (low-sector track sector content.number.most) content.fit)
row_follows disk track sector bytes ZoneGap known content =
    self_syncs-follow (gap_syncs (zone_of track))
