-- The halves of bytes in 4-and-4: they give the byte, and are of those that fields are made of.
use Rattle.std.specs.Prelude.{◌≡◌, ℕ, ◌*◌, ◌%◌, ◌<◌, true, ◌&&◌, bit_and, bit_or, List, [], ◌∷◌}
use Rattle.std.specs.Prelude.{map, refl, flat_map}
use Rattle.std.specs.List.{range_with_len}
use Rattle.cell_bits.specs.Word.{word_cells}
use Rattle.flux_base.specs.declared.track.TrackId.{TrackId}
use Rattle.track_rings.specs.Rings.{AreBytes}
use Rattle.track_rings.specs.Spaced.{is_spaced}
use Rattle.track_rings.specs.lemmas.Syncs.{both_true, clashes, fits}
use Rattle.apple_gcr.specs.FourAndFour.{first_half, second_half, four_and_four}
use Rattle.apple_gcr.specs.Layout.{address_of}
use Rattle.apple_nibbles.specs.Nibbles.{bytes_cells}
use Rattle.apple_nibbles.specs.lemmas.FieldBytes.{AreFieldBytes, IsFieldByte, field_byte}
use Rattle.apple_nibbles.specs.lemmas.FieldBytes.{is_field_byte}
use Rattle.apple_nibbles.specs.lemmas.NibbleLaws.{agree-below}

-- the halves of a byte give the byte
read_table : map (λ byte. bit_and (bit_or (first_half byte * 2 % 256) 1) (second_half byte))
    (range_with_len 0 256)
    ≡ map (λ byte. byte) (range_with_len 0 256)
read_table = refl

pub halves-read : (byte : ℕ) → byte < 256
    → bit_and (bit_or (first_half byte * 2 % 256) 1) (second_half byte) ≡ byte
halves-read byte within =
    agree-below (λ b. bit_and (bit_or (first_half b * 2 % 256) 1) (second_half b)) (λ b. b) 256 byte
    within read_table

-- each half is one that fields are made of
halves_table : map (λ byte. is_field_byte (first_half byte) && is_field_byte (second_half byte))
    (range_with_len 0 256)
    ≡ map (λ byte. true) (range_with_len 0 256)
unfolding is_field_byte is_spaced fits clashes word_cells
halves_table = refl

pub IsFieldByte-halves : (byte : ℕ) → byte < 256
    → IsFieldByte (first_half byte) × IsFieldByte (second_half byte)
IsFieldByte-halves byte within =
    let table = agree-below (λ b. is_field_byte (first_half b) && is_field_byte (second_half b))
    (λ b. true) 256 byte within halves_table in
    let both = both_true (is_field_byte (first_half byte)) _ table in
    (field_byte (first_half byte) both.0, field_byte (second_half byte) both.1)

-- bytes in 4-and-4, half by half
abbrev pub in_halves : List ℕ → List ℕ
in_halves bytes = flat_map (λ byte. first_half byte ∷ second_half byte ∷ []) bytes

pub AreFieldBytes-halves : (bytes : List ℕ) → AreBytes bytes → AreFieldBytes (in_halves bytes)
unfolding AreBytes
AreFieldBytes-halves [] fit = tt
AreFieldBytes-halves (byte ∷ bytes) fit =
    let both = IsFieldByte-halves byte fit.0 in (both.0, (both.1, AreFieldBytes-halves bytes fit.1))

pub address_cells : (track : TrackId) (sector : ℕ)
    → flat_map four_and_four (address_of track sector)
    ≡ bytes_cells (in_halves (address_of track sector))
unfolding four_and_four word_cells
address_cells track sector = refl
