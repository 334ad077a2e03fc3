-- The cells of a row: how many they are, and how far their ones are apart.
use Rattle.std.specs.Prelude.{◌≡◌, ℕ, ◌*◌, ◌<◌, Bool, true, false, List, length, replicate, refl}
use Rattle.std.proofs.Common.{ap, sym, subst, ◌∙◌, arith, lit<}
use Rattle.std.proofs.lemmas.List.{length-replicate}
use Rattle.std.proofs.lemmas.Nat.{xor_of_8}
use Rattle.std.specs.Int.Bits.{bit_xor}
use Rattle.flux_base.specs.declared.track.TrackId.{TrackId}
use Rattle.cell_bits.specs.Word.{word_cells}
use Rattle.cell_bits.specs.lemmas.WordLaws.{length-word_cells}
use Rattle.frame_law.specs.lemmas.WordRowLaws.{length-row}
use Rattle.track_rings.specs.Rows.{IsContent}
use Rattle.track_rings.specs.Rings.{AreBytes}
use Rattle.track_rings.specs.Spaced.{MayFollow, is_spaced}
use Rattle.apple_gcr.specs.declared.layout.Mark.{Mark}
use Rattle.apple_gcr.specs.declared.layout.Mark.TheVariants.{AddressField, DataField, Epilogue}
use Rattle.apple_gcr.specs.declared.layout.Row.{Row}
use Rattle.apple_gcr.specs.declared.layout.Row.TheVariants.{SelfSyncs, Mark as AMark, Address}
use Rattle.apple_gcr.specs.declared.layout.Row.TheVariants.{Content}
use Rattle.apple_gcr.specs.lemmas.HalfLaws.{AreFieldBytes-halves, address_cells, in_halves}
use Rattle.apple_gcr.specs.FourAndFour.{four_and_four}
use Rattle.apple_gcr.specs.Layout.{VOLUME, address_of, row_cells, row_size, word_of}
use Rattle.apple_gcr.specs.Sectors.{IsAppleTrack, check_of}
use Rattle.apple_gcr.specs.SixAndTwo.{data_nibbles}
use Rattle.apple_gcr.specs.lemmas.ValueLaws.{data_nibbles-are, length-data_nibbles}
use Rattle.apple_nibbles.specs.Marks.{SELF_SYNC}
use Rattle.apple_nibbles.specs.lemmas.FieldBytes.{length-bytes_cells}
use Rattle.apple_nibbles.specs.lemmas.FieldSpacing.{bytes-follow, follows, self_syncs-follow}

length-four_and_four : (byte : ℕ) → length (four_and_four byte) ≡ 16
unfolding four_and_four word_cells
length-four_and_four byte = refl

pub row_length : (track : TrackId) (before : Bool) (sector : ℕ) (bytes : List ℕ) (row : Row)
    → length (row_cells track before sector bytes row) ≡ row_size (length bytes) row
row_length track before sector bytes (SelfSyncs count) =
    length-row 10 (word_cells 10) (length-word_cells 10) (replicate count SELF_SYNC)
    ∙ ap (λ (n : ℕ). 10 * n) (length-replicate count SELF_SYNC)
row_length track before sector bytes (AMark mark) = length-word_cells 24 (word_of mark)
row_length track before sector bytes Address =
    length-row 16 four_and_four length-four_and_four (address_of track sector)
row_length track before sector bytes Content =
    length-bytes_cells (data_nibbles bytes) ∙ ap (λ (n : ℕ). 8 * n) (length-data_nibbles bytes)

-- an address is made of bytes
pub address-fits : (track : TrackId) (sector : ℕ) → IsAppleTrack track → sector < 16
    → AreBytes (address_of track sector)
unfolding AreBytes
address-fits track sector known few =
    let cylinder : track.cylinder < 256 = omega (arith, known.cylinder) in
    let number : sector < 256 = omega arith in
    let check : check_of VOLUME track.cylinder sector < 256 =
    xor_of_8 (bit_xor VOLUME track.cylinder) sector
    (xor_of_8 VOLUME track.cylinder (lit< tt) cylinder) number in
    (lit< tt, (cylinder, (number, (check, tt))))

mark-spaced : (mark : Mark) → is_spaced 1 3 2 (word_cells 24 (word_of mark)) ≡ true
unfolding is_spaced word_cells
mark-spaced AddressField = refl
mark-spaced DataField = refl
mark-spaced Epilogue = refl

pub row_follows : (track : TrackId) (sector : ℕ) (bytes : List ℕ) (row : Row) → IsAppleTrack track
    → IsContent 0 16 256 sector bytes
    → MayFollow 1 3 2 false (λ before. row_cells track before sector bytes row)
row_follows track sector bytes (SelfSyncs count) known content = self_syncs-follow count
row_follows track sector bytes (AMark mark) known content =
    follows (word_cells 24 (word_of mark)) (mark-spaced mark)
row_follows track sector bytes Address known content =
    subst (λ (cells : List Bool). MayFollow 1 3 2 false (λ before. cells))
    (sym (address_cells track sector))
    (bytes-follow (in_halves (address_of track sector))
    (AreFieldBytes-halves (address_of track sector)
    (address-fits track sector known (omega (arith, content.number.most)))))
row_follows track sector bytes Content known content =
    bytes-follow (data_nibbles bytes) (data_nibbles-are bytes content.fit)
