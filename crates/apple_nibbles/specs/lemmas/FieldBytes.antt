-- The bytes that fields are made of, and that they read back in a row.
use Rattle.std.specs.Prelude.{◌≡◌, ℕ, ◌+◌, ◌*◌, ◌<◌, ◌≤◌, Bool, true, ◌&&◌, nat_le, nat_lt, List}
use Rattle.std.specs.Prelude.{[], ◌∷◌, ◌++◌, length, get_or, map, Option, Some, None, refl}
use Rattle.std.specs.List.{range_with_len}
use Rattle.std.proofs.Common.{ap, sym, ◌∙◌, arith}
use Rattle.std.proofs.lemmas.Bool.Decides.{nat_tests}
use Rattle.cell_bits.specs.Word.{word_cells}
use Rattle.cell_bits.specs.lemmas.WordLaws.{length-word_cells}
use Rattle.frame_law.specs.lemmas.WordRowLaws.{length-row, row-front, word-first}
use Rattle.track_rings.specs.Rings.{AreBytes}
use Rattle.track_rings.specs.Spaced.{is_spaced}
use Rattle.track_rings.specs.lemmas.Fronts.{AgreeTo, agree-word}
use Rattle.track_rings.specs.lemmas.Parts.{word-past}
use Rattle.track_rings.specs.lemmas.Syncs.{all_known, both_true, clashes, fits}
use Rattle.apple_nibbles.specs.Nibbles.{bytes_cells, disk_byte, nibble}
use Rattle.apple_nibbles.specs.declared.nibbles.TheConstants.{NIBBLES}
use Rattle.apple_nibbles.specs.lemmas.NibbleLaws.{agree-below, nibble-is}

-- of a byte is known that its first cell is a one
abbrev pub one_byte : List (Option Bool)
one_byte = Some true ∷ None ∷ None ∷ None ∷ None ∷ None ∷ None ∷ None ∷ []

-- the byte with which every mark of a field begins
abbrev pub mark_byte : List (Option Bool)
mark_byte = all_known (word_cells 8 0xD5)

-- A byte that a field is made of: its first cell is a one, it has no three zeros in a row, and no
-- mark of a field begins with it.
pub record IsFieldByte (byte : ℕ) : Type 0 where
  pub fit : byte < 256
  pub high : 128 ≤ byte
  pub spaced : is_spaced 1 3 2 (word_cells 8 byte) ≡ true
  pub begins : fits one_byte (word_cells 8 byte) ≡ true
  pub other : clashes mark_byte (all_known (word_cells 8 byte)) ≡ true

-- the same as a test, by which tables of bytes are computed
unfoldable pub is_field_byte : ℕ → Bool
is_field_byte byte =
    (nat_lt byte 256 && (nat_le 128 byte && is_spaced 1 3 2 (word_cells 8 byte)))
    && (fits one_byte (word_cells 8 byte) && clashes mark_byte (all_known (word_cells 8 byte)))

pub field_byte : (byte : ℕ) → is_field_byte byte ≡ true → IsFieldByte byte
unfolding is_field_byte
field_byte byte is =
    let both = both_true
    (nat_lt byte 256 && (nat_le 128 byte && is_spaced 1 3 2 (word_cells 8 byte))) _ is in
    let first = both_true (nat_lt byte 256) _ both.0 in
    let more = both_true (nat_le 128 byte) _ first.1 in
    let second = both_true (fits one_byte (word_cells 8 byte)) _ both.1 in
    let low : nat_lt byte 256 ≡ true = first.0 in
    let least : nat_le 128 byte ≡ true = more.0 in
    record {
      fit = grind (arith, nat_tests);
      high = grind (arith, nat_tests);
      spaced = more.1;
      begins = second.0;
      other = second.1;
    }

-- so is each nibble
nibble_table : map (λ value. is_field_byte (get_or NIBBLES value 0)) (range_with_len 0 64)
    ≡ map (λ value. true) (range_with_len 0 64)
unfolding is_field_byte is_spaced fits clashes word_cells
nibble_table = refl

pub IsFieldByte-nibble : (value : ℕ) → value < 64 → IsFieldByte (nibble value)
IsFieldByte-nibble value within =
    field_byte (nibble value)
    (sym (ap is_field_byte (nibble-is value))
    ∙ agree-below (λ v. is_field_byte (get_or NIBBLES v 0)) (λ v. true) 64 value within
    nibble_table)

pub length-bytes_cells : (bytes : List ℕ) → length (bytes_cells bytes) ≡ 8 * length bytes
length-bytes_cells bytes = length-row 8 (word_cells 8) (length-word_cells 8) bytes

abbrev pub AreFieldBytes : List ℕ → Type 0
AreFieldBytes [] = Unit {0}
AreFieldBytes (byte ∷ bytes) = IsFieldByte byte × AreFieldBytes bytes

pub AreFieldBytes-map : (f : ℕ → ℕ) → ((k : ℕ) → IsFieldByte (f k)) → (ks : List ℕ)
    → AreFieldBytes (map f ks)
AreFieldBytes-map f each [] = tt
AreFieldBytes-map f each (k ∷ ks) = (each k, AreFieldBytes-map f each ks)

are-bytes : (bytes : List ℕ) → AreFieldBytes bytes → AreBytes bytes
unfolding AreBytes
are-bytes [] all = tt
are-bytes (byte ∷ bytes) all = (all.0.fit, are-bytes bytes all.1)

-- a byte after a part of known length
pub disk_byte-past : (xs ys : List Bool) (size offset : ℕ) → length xs ≡ size
    → disk_byte (xs ++ ys) (size + offset) ≡ disk_byte ys offset
unfolding disk_byte
disk_byte-past xs ys size offset is = word-past xs ys size offset 8 is

-- each of them reads back there
pub bytes-read : (front : List Bool) (bytes : List ℕ) (rest : List Bool) (place k : ℕ)
    → length front ≡ place → AreFieldBytes bytes → k < length bytes
    → disk_byte (front ++ (bytes_cells bytes ++ rest)) (place + 8 * k) ≡ get_or bytes k 0
unfolding disk_byte
bytes-read front bytes rest place k is all within =
    let e : 8 * k ≡ 0 + 8 * k = omega arith in
    disk_byte-past front (bytes_cells bytes ++ rest) place (8 * k) is
    ∙ ap (disk_byte (bytes_cells bytes ++ rest)) e
    ∙ row-front 8 (λ cells here byte. disk_byte cells here ≡ byte) (word_cells 8)
    (length-word_cells 8)
    (λ byte after fits. word-first byte 8 after fits)
    (λ xs ys before here byte size same. word-past xs ys before here 8 size ∙ same)
    bytes rest (are-bytes bytes all) k within

-- in cells that agree a byte is the same
pub same_byte : (total : ℕ) (cells others : List Bool) → AgreeTo total cells others → (place : ℕ)
    → place + 8 ≤ total
    → disk_byte others place ≡ disk_byte cells place
unfolding disk_byte
same_byte total cells others same place long = sym (agree-word total cells others same place 8 long)
