-- What is printed of the contents of a sector.
use Rattle.std.specs.Prelude.{ℕ, ◌+◌, ◌*◌, ◌/◌, ◌%◌, Bool, true, false, List, [], ◌∷◌, ◌++◌, codes}
use Rattle.std.specs.Prelude.{decimal, drop, flat_map, get_or, if◌then◌else◌, length, map, nat_lt}
use Rattle.std.specs.Prelude.{take}
use Rattle.std.specs.List.{range_with_len}
use Rattle.std.specs.Str.{bytes_eq}
use Rattle.sector_images.specs.Formats.{row}
use Rattle.sector_images.specs.Places.{sector_place}
use Rattle.sector_images.specs.declared.format.Format.{Format}
use Rattle.sector_report.specs.Lines.{named_text, place_text}
use Rattle.sector_report.specs.declared.naming.Naming.TheVariants.{ByCaptureAndClock}
use Rattle.turn_merge.specs.declared.clock.Clock.TheVariants.{Following}
use Rattle.turn_merge.specs.declared.verdict.Place.{Place}
use Rattle.turn_merge.specs.declared.verdict.Verdict.{Verdict}
use Rattle.flux_engine.specs.Recordings.{track_at}
use Rattle.sector_copies.specs.Copies.{Copy}

-- where a sector's bytes stand in the image, and how many they are
unfoldable pub offset_text : (place size : ℕ) → List ℕ
offset_text place size =
    codes "image offset " ++ decimal place ++ (codes " bytes " ++ decimal size) ++ codes "\n"

-- the number of a content from 0, how many good readings hold it, and where the first of them
-- stands: the dump, the clock, the revolution, the cell
unfoldable pub head_text : (number readings : ℕ) → Place → List ℕ
head_text number readings first =
    codes "copy " ++ decimal number ++ codes " readings " ++ decimal readings
    ++ place_text ByCaptureAndClock first ++ codes "\n"

-- the digit of a number below 16, in ASCII
abbrev pub digit : ℕ → ℕ
digit number = if nat_lt number 10 then number + 48 else number + 87

-- a byte in two digits
abbrev pub two_hex : ℕ → List ℕ
two_hex byte = digit (byte / 16) ∷ digit (byte % 16) ∷ []

-- the character that a byte is in ASCII, or a dot where that is none that can be seen
abbrev pub shown : ℕ → ℕ
shown byte = if nat_lt byte 32 then 46 else if nat_lt byte 127 then byte else 46

-- the bytes of a row: 16 of them, by the row's number from 0, or those that are left
abbrev pub row_bytes : List ℕ → ℕ → List ℕ
row_bytes bytes number = take 16 (drop (16 * number) bytes)

-- what stands before a row: whether its bytes are those of the first content
abbrev pub mark : Bool → List ℕ
mark true = codes "  "
mark false = codes "> "

-- a row of a content: the offset in four digits, the bytes, and what they show
unfoldable pub row_text : (first bytes : List ℕ) → (number : ℕ) → List ℕ
row_text first bytes number =
    mark (bytes_eq (row_bytes first number) (row_bytes bytes number)) ++ two_hex (16 * number / 256)
    ++ two_hex (16 * number % 256) ++ codes " "
    ++ flat_map (λ byte. 32 ∷ two_hex byte) (row_bytes bytes number) ++ codes "  "
    ++ map shown (row_bytes bytes number) ++ codes "\n"

-- how many rows so many bytes have
abbrev pub row_count : ℕ → ℕ
row_count size = (size + 15) / 16

abbrev pub rows_text : (first bytes : List ℕ) → List ℕ
rows_text first bytes =
    flat_map (row_text first bytes) (range_with_len 0 (row_count (length bytes)))

-- what stands for a content where there is none
abbrev pub no_copy : Copy
no_copy = record {
  bytes = [];
  readings = 0;
  first = record { capture = 0; clock = Following; turn = 0; cell = 0 };
}

-- a content by its number
abbrev pub copy_at : List Copy → ℕ → Copy
copy_at copies number = get_or copies number no_copy

-- the text of a content with its number: its rows stand against those of the first one
abbrev pub copy_text : List Copy → ℕ → List ℕ
copy_text copies number =
    let copy = copy_at copies number in
    head_text number copy.readings copy.first ++ rows_text (copy_at copies 0).bytes copy.bytes

abbrev pub copies_text : List Copy → List ℕ
copies_text copies = flat_map (copy_text copies) (range_with_len 0 (length copies))

-- the sector's line, as it is told of a disk that is read
abbrev pub line_text : Format → (n sector : ℕ) → Verdict → List ℕ
line_text format n sector outcome = named_text ByCaptureAndClock (track_at format n) sector outcome

-- all of it
abbrev pub sector_text : Format → (n sector : ℕ) → Verdict → List Copy → List ℕ
sector_text format n sector outcome copies =
    offset_text (sector_place format (track_at format n) sector) (row format).sector_size
    ++ (copies_text copies ++ line_text format n sector outcome)
