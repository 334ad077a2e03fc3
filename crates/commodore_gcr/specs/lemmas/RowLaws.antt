-- The cells of a row: how many they are, and how far their ones are apart.
use Rattle.std.specs.Prelude.{◌≡◌, ℕ, zero, suc, ◌+◌, ◌*◌, ◌/◌, ◌%◌, ◌<◌, ◌≤◌, Bool, true, false}
use Rattle.std.specs.Prelude.{◌&&◌, List, [], ◌∷◌, length, nat_le, replicate, refl}
use Rattle.std.proofs.Common.{ap, ◌∙◌, arith, lit<, length-append}
use Rattle.std.proofs.lemmas.Bool.{agree_below, agree_below_at, and_parts}
use Rattle.std.proofs.lemmas.Bool.Decides.{nat_tests}
use Rattle.std.proofs.lemmas.List.{length-replicate}
use Rattle.std.proofs.Math.Nat.{mod-lt}
use Rattle.flux_base.specs.declared.track.TrackId.{TrackId}
use Rattle.cell_bits.specs.Word.{word_cells}
use Rattle.cell_bits.specs.lemmas.WordLaws.{length-word_cells}
use Rattle.check_values.specs.Sums.{xor}
use Rattle.frame_law.specs.lemmas.WordRowLaws.{length-row}
use Rattle.track_rings.specs.Spaced.{MayFollow, is_spaced, zeros_after}
use Rattle.track_rings.specs.lemmas.SpacedLaws.{cells-append, cells-each}
use Rattle.commodore_gcr.specs.declared.layout.Row.{Row}
use Rattle.commodore_gcr.specs.declared.layout.Row.TheVariants.{SyncLead, SyncOnes, HeaderBlock}
use Rattle.commodore_gcr.specs.declared.layout.Row.TheVariants.{HeaderGap, DataBytes, DataFill}
use Rattle.commodore_gcr.specs.declared.layout.Row.TheVariants.{ZoneGap}
use Rattle.commodore_gcr.specs.declared.recording.CommodoreGcr.{CommodoreGcr}
use Rattle.commodore_gcr.specs.Sectors.{DATA_FILL, data_bytes, header_block}
use Rattle.commodore_gcr.specs.Coding.{code_of, gcr, gcr_bytes}
use Rattle.commodore_gcr.specs.lemmas.CodingLaws.{length-gcr_bytes}
use Rattle.commodore_gcr.specs.Layout.{gap_bytes, gap_cells, row_cells, row_size}
use Rattle.commodore_gcr.specs.Zones.{zone_of}

pub length-gap_cells : (count : ℕ) → length (gap_cells count) ≡ 8 * count
length-gap_cells count = length-row 8 (word_cells 8) (length-word_cells 8) (replicate count 0x55)
    ∙ ap (λ n. 8 * n) (length-replicate count 0x55)

pub length-data_bytes : (bytes : List ℕ) → length (data_bytes bytes) ≡ length bytes + 2
length-data_bytes bytes = omega (arith, length-append bytes (xor bytes ∷ []))

pub row_length : (disk : CommodoreGcr) (track : TrackId) (before : Bool) (sector : ℕ)
    (bytes : List ℕ) (row : Row)
    → length (row_cells disk track before sector bytes row)
    ≡ row_size (zone_of disk.drive track) (length bytes) row
row_length disk track before sector bytes SyncLead = refl
row_length disk track before sector bytes SyncOnes = refl
row_length disk track before sector bytes HeaderBlock =
    length-gcr_bytes (header_block disk.drive disk.id1 disk.id2 track sector)
row_length disk track before sector bytes HeaderGap = length-gap_cells 9
row_length disk track before sector bytes DataBytes =
    length-gcr_bytes (data_bytes bytes) ∙ ap (λ n. 10 * n) (length-data_bytes bytes)
row_length disk track before sector bytes DataFill = length-gcr_bytes DATA_FILL
row_length disk track before sector bytes ZoneGap =
    length-gap_cells (gap_bytes (zone_of disk.drive track))

-- after a one, and after one zero: no three zeros come in a row, and not two stand last
follows : List Bool → Bool
follows cells =
    (is_spaced 1 3 0 cells && nat_le (zeros_after 0 cells) 1)
    && (is_spaced 1 3 1 cells && nat_le (zeros_after 1 cells) 1)

few : (count : ℕ) → nat_le count 1 ≡ true → count ≤ 1
few count test = grind (arith, nat_tests)

follows-may : (cells : List Bool) → follows cells ≡ true → MayFollow 1 3 1 false (λ before. cells)
unfolding follows
follows-may cells test zero low =
    let first = and_parts _ _ (and_parts _ _ test).0 in
    (first.0, few (zeros_after 0 cells) first.1)
follows-may cells test (suc zero) low =
    let second = and_parts _ _ (and_parts _ _ test).1 in
    (second.0, few (zeros_after 1 cells) second.1)
follows-may cells test (suc (suc seen)) low = absurd (omega arith)

codes_follow : agree_below (λ n. follows (word_cells 5 (code_of n))) (λ n. true) 16 ≡ true
unfolding follows is_spaced zeros_after code_of word_cells
codes_follow = refl

pub nibble-lt : (number : ℕ) → number % 16 < 16
nibble-lt number = mod-lt number (lit< tt)

code-follows : (number : ℕ) → MayFollow 1 3 1 false (λ before. word_cells 5 (code_of (number % 16)))
code-follows number =
    follows-may (word_cells 5 (code_of (number % 16)))
    (agree_below_at (λ n. follows (word_cells 5 (code_of n))) (λ n. true) 16 (number % 16)
    codes_follow (nibble-lt number))

byte-follows : (byte : ℕ) → MayFollow 1 3 1 false (λ before. gcr byte)
unfolding gcr
byte-follows byte =
    cells-append 1 3 1 (word_cells 5 (code_of (byte / 16 % 16)))
    (word_cells 5 (code_of (byte % 16))) (code-follows (byte / 16)) (code-follows byte)

bytes-follow : (bytes : List ℕ) → MayFollow 1 3 1 false (λ before. gcr_bytes bytes)
bytes-follow bytes = cells-each 1 3 1 gcr byte-follows bytes

-- ones, and a byte of a gap
others-follow : MayFollow 1 3 1 false (λ before. replicate 10 true)
    × MayFollow 1 3 1 false (λ before. replicate 30 true)
    × MayFollow 1 3 1 false (λ before. word_cells 8 0x55)
unfolding follows is_spaced zeros_after word_cells
others-follow = (
  follows-may (replicate 10 true) refl,
  follows-may (replicate 30 true) refl,
  follows-may (word_cells 8 0x55) refl,
)

gap-follows : (count : ℕ) → MayFollow 1 3 1 false (λ before. gap_cells count)
gap-follows zero = cells-each 1 3 1 gcr byte-follows []
gap-follows (suc count) =
    cells-append 1 3 1 (word_cells 8 0x55) (gap_cells count) others-follow.2 (gap-follows count)

pub row_follows : (disk : CommodoreGcr) (track : TrackId) (sector : ℕ) (bytes : List ℕ) (row : Row)
    → MayFollow 1 3 1 false (λ before. row_cells disk track before sector bytes row)
row_follows disk track sector bytes SyncLead = others-follow.1
row_follows disk track sector bytes SyncOnes = others-follow.0
row_follows disk track sector bytes HeaderBlock =
    bytes-follow (header_block disk.drive disk.id1 disk.id2 track sector)
row_follows disk track sector bytes HeaderGap = gap-follows 9
row_follows disk track sector bytes DataBytes = bytes-follow (data_bytes bytes)
row_follows disk track sector bytes DataFill = bytes-follow DATA_FILL
row_follows disk track sector bytes ZoneGap = gap-follows (gap_bytes (zone_of disk.drive track))
