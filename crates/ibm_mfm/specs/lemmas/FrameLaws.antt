-- A sector's frame as it is written, whatever comes after it: its header names the
-- sector, and its data hold the bytes.
use Rattle.std.specs.Prelude.{◌≡◌, ℕ, ◌+◌, ◌*◌, ◌<◌, Bool, true, false, List, [], ◌∷◌, ◌++◌, length}
use Rattle.std.specs.Prelude.{take, replicate, refl}
use Rattle.std.proofs.Common.{ap, sym, subst, ◌∙◌, arith, append_assoc, append-nil, inl}
use Rattle.std.proofs.Common.{length-append, lit<, lit≤}
use Rattle.std.proofs.lemmas.List.{length-map, map-append}
use Rattle.flux_base.specs.declared.track.TrackId.{TrackId}
use Rattle.cell_bits.specs.Bytes.{data_byte, mfm, mfm_cells}
use Rattle.cell_bits.specs.Word.{Stands, word_cells}
use Rattle.track_rings.specs.lemmas.Gaps.{begins, free_of, gap-free}
use Rattle.track_rings.specs.lemmas.Parts.{drop-past}
use Rattle.track_rings.specs.Rings.{IsSectorNumber, AreBytes}
use Rattle.track_rings.specs.Rows.{rows_cells}
use Rattle.frame_law.specs.Frames.{FrameStands}
use Rattle.ibm_fields.specs.Fields.{DATA_BYTE, bytes_at, high_first}
use Rattle.ibm_fields.specs.lemmas.FieldLaws.{data_byte-first, number_at-high_first}
use Rattle.ibm_fields.specs.lemmas.Numbers.{AreBytes-high_first, crc-lt}
use Rattle.mfm_coding.specs.declared.symbol.Symbol.{Symbol}
use Rattle.mfm_coding.specs.declared.symbol.Symbol.TheVariants.{Data, SyncMark}
use Rattle.mfm_coding.specs.Coding.{bytes_as_data, coded, symbol_cells}
use Rattle.mfm_coding.specs.lemmas.CodingLaws.{coded-append, last_bit, length-coded}
use Rattle.mfm_coding.specs.lemmas.SymbolRows.{rows-coded, rows_symbols}
use Rattle.ibm_disks.specs.Numbers.{code_of, size_of}
use Rattle.ibm_disks.specs.declared.track_numbers.TrackNumbers.{TrackNumbers}
use Rattle.ibm_disks.specs.lemmas.NumberLaws.{code-low}
use Rattle.ibm_mfm.specs.declared.recording.IbmMfm.{IbmMfm}
use Rattle.ibm_mfm.specs.Disks.{IsMfmTrack}
use Rattle.ibm_mfm.specs.Layout.{field, row_cells, row_symbols, rows_of}
use Rattle.ibm_mfm.specs.lemmas.ReadLaws.{reads-after}
use Rattle.ibm_mfm.specs.Sectors.{Hold, NamesSector, address_of, check_of}
use Rattle.ibm_mfm.specs.Syncs.{SyncAt}

abbrev pub three_marks : List Symbol
three_marks = SyncMark ∷ SyncMark ∷ SyncMark ∷ []

-- the header
abbrev header : ℕ → TrackId → ℕ → List Symbol
header code track sector = three_marks ++ field 0xFE (address_of code track sector)

-- the gap from there to the data, and their marks and their first byte
abbrev gap : List Symbol
gap = replicate 22 (Data 0x4E) ++ (replicate 12 (Data 0x00) ++ (three_marks ++ (Data 0xFB ∷ [])))

-- a frame: all that stands before the bytes, they, and their check value
abbrev front : ℕ → TrackId → ℕ → List Symbol
front code track sector = header code track sector ++ gap

abbrev content : List ℕ → List Symbol
content bytes = bytes_as_data bytes ++ bytes_as_data (high_first (check_of 0xFB bytes))

frame-symbols : (disk : TrackNumbers) (track : TrackId) (sector : ℕ) (bytes : List ℕ)
    → rows_symbols (row_symbols disk track) sector bytes (rows_of disk).frame
    ≡ front (code_of disk.size) track sector ++ content bytes
frame-symbols disk track sector bytes =
    let check = high_first (check_of 0xFB bytes) in
    ap (λ (some : List Symbol). front (code_of disk.size) track sector ++ some)
    (append-nil (bytes_as_data (bytes ++ check)) ∙ map-append Data bytes check)

-- the third of three marks
third_mark : (before : Bool) (symbols : List Symbol) (rest : List Bool)
    → Stands (coded before (three_marks ++ symbols) ++ rest) 0x4489 16 32
unfolding coded symbol_cells word_cells
third_mark before symbols rest = refl

two_marks : (before : Bool) (symbols : List Symbol) (rest : List Bool)
    → Stands (coded before (three_marks ++ symbols) ++ rest) 0x44894489 32 0
unfolding coded symbol_cells word_cells
two_marks before symbols rest = refl

-- a header names its sector
names-sector : (code : ℕ) (track : TrackId) (sector : ℕ) (before : Bool) (after : List Symbol)
    (rest : List Bool)
    → code < 256 → track.cylinder < 100
    → track.head < 2 → sector < 256
    → NamesSector code track (coded before (header code track sector ++ after) ++ rest) sector
unfolding AreBytes
names-sector code track sector before after rest of_code cylinder head low =
    let address = address_of code track sector in
    let number = check_of 0xFE address in
    let cells = coded before (header code track sector ++ after) ++ rest in
    let fits : number < 65536 = crc-lt 0xFFFF (0xA1 ∷ 0xA1 ∷ 0xA1 ∷ 0xFE ∷ address) (lit< tt) in
    let fit : AreBytes address =
    (omega (arith, cylinder), (omega (arith, head), (low, (of_code, tt)))) in
    record {
      third = third_mark before (field 0xFE address ++ after) rest;
      first = data_byte-first cells 48 0 0xFE []
          (reads-after before three_marks (0xFE ∷ [])
          (bytes_as_data (address ++ high_first number) ++ after) rest (lit< tt, tt));
      address = reads-after before (three_marks ++ (Data 0xFE ∷ [])) address
          (bytes_as_data (high_first number) ++ after) rest fit;
      check = number_at-high_first cells 128 number
          (reads-after before (three_marks ++ bytes_as_data (0xFE ∷ address)) (high_first number)
          after rest (AreBytes-high_first number fits));
    }

-- in the gap no sync stands, and after it the data's does
gap-free_of : (before : Bool) (after : List Symbol) (rest : List Bool)
    → free_of (word_cells 48 0x448944894489) 544 (coded before (gap ++ after) ++ rest) ≡ true
unfolding free_of begins coded symbol_cells mfm mfm_cells word_cells
gap-free_of true after rest = refl
gap-free_of false after rest = refl

gap-sync : (before : Bool) (after : List Symbol) (rest : List Bool)
    → SyncAt (coded before (gap ++ after) ++ rest) 544
unfolding coded symbol_cells mfm mfm_cells word_cells
gap-sync true after rest = refl
gap-sync false after rest = refl

-- the mark of data, the byte FB
data_mark : (code : ℕ) (track : TrackId) (sector : ℕ) (bytes : List ℕ) (before : Bool)
    (rest : List Bool)
    → data_byte (coded before (front code track sector ++ content bytes) ++ rest) 752 ≡ 0xFB
unfolding AreBytes
data_mark code track sector bytes before rest =
    let opening = header code track sector
    ++ (replicate 22 (Data 0x4E) ++ (replicate 12 (Data 0x00) ++ three_marks)) in
    data_byte-first (coded before (front code track sector ++ content bytes) ++ rest) 752 0 0xFB []
    (reads-after before opening (0xFB ∷ []) (content bytes) rest (lit< tt, tt))

-- data hold their bytes
holds : (code : ℕ) (track : TrackId) (sector : ℕ) (bytes : List ℕ) (before : Bool)
    (rest : List Bool)
    → AreBytes bytes
    → Hold (length bytes) (coded before (front code track sector ++ content bytes) ++ rest) 704
    bytes
holds code track sector bytes before rest fit =
    let number = check_of 0xFB bytes in
    let check = high_first number in
    let fits : number < 65536 = crc-lt 0xFFFF (0xA1 ∷ 0xA1 ∷ 0xA1 ∷ 0xFB ∷ bytes) (lit< tt) in
    let some = front code track sector in
    let cells = coded before (some ++ content bytes) ++ rest in
    let others = some ++ bytes_as_data bytes in
    let first = data_mark code track sector bytes before rest in
    let further : some ++ content bytes ≡ others ++ (bytes_as_data check ++ []) =
    sym (append_assoc some (bytes_as_data bytes) (bytes_as_data check)) in
    let number_place : ℕ = 704 + 16 * (length bytes + 4) in
    let place : 16 * length others ≡ number_place =
    omega (arith, length-append some (bytes_as_data bytes), length-map bytes Data) in
    record {
      opens = inl first;
      content = reads-after before some bytes (bytes_as_data check) rest fit;
      check = number_at-high_first cells number_place number
          (ap (λ (symbols : List Symbol). bytes_at (coded before symbols ++ rest) number_place 2)
          further
          ∙ ap
          (λ (n : ℕ).
          bytes_at (coded before (others ++ (bytes_as_data check ++ [])) ++ rest) n 2)
          (sym place)
          ∙ reads-after before others check [] rest (AreBytes-high_first number fits))
          ∙ ap (λ (byte : ℕ). check_of byte bytes) (sym first);
    }

-- the cells of a frame's rows
rows-are : (disk : TrackNumbers) (track : TrackId) (sector : ℕ) (bytes : List ℕ) (before : Bool)
    → rows_cells true (row_cells disk track) before sector bytes (rows_of disk).frame
    ≡ coded before (front (code_of disk.size) track sector ++ content bytes)
rows-are disk track sector bytes before =
    rows-coded (row_symbols disk track) before sector bytes (rows_of disk).frame
    ∙ ap (coded before) (frame-symbols disk track sector bytes)

-- so they have that mark
pub rows_mark : (disk : TrackNumbers) (track : TrackId) (sector : ℕ) (bytes : List ℕ)
    (before : Bool)
    → data_byte (rows_cells true (row_cells disk track) before sector bytes (rows_of disk).frame)
    752 ≡ DATA_BYTE
rows_mark disk track sector bytes before =
    let code = code_of disk.size in
    ap (λ (cells : List Bool). data_byte cells 752)
    (rows-are disk track sector bytes before
    ∙ sym (append-nil (coded before (front code track sector ++ content bytes))))
    ∙ data_mark code track sector bytes before []

-- the rows of a frame are read back
pub frame_stands : (recording : IbmMfm) (track : TrackId) (sector : ℕ) (bytes : List ℕ)
    (before : Bool) (rest : List Bool)
    → IsMfmTrack recording track
    → IsSectorNumber recording.numbers.first_sector recording.numbers.sectors sector
    → AreBytes bytes
    → length bytes ≡ size_of recording.numbers.size
    → FrameStands 0x44894489 32 160 704 (NamesSector (code_of recording.numbers.size) track) SyncAt
    (Hold (size_of recording.numbers.size))
    (rows_cells true (row_cells recording.numbers track) before sector bytes
    (rows_of recording.numbers).frame
    ++ rest) sector bytes
frame_stands recording track sector bytes before rest known number fit size =
    let disk = recording.numbers in
    let code = code_of disk.size in
    let some = header code track sector in
    let after = gap ++ content bytes in
    let first = coded before some in
    let bit = last_bit before some in
    let then = coded bit after ++ rest in
    let whole = coded before (some ++ after) ++ rest in
    let written : rows_cells true (row_cells disk track) before sector bytes (rows_of disk).frame
    ++ rest
    ≡ whole =
    ap (λ (cells : List Bool). cells ++ rest) (rows-are disk track sector bytes before) in
    let apart : whole ≡ first ++ then =
    ap (λ (cells : List Bool). cells ++ rest) (coded-append before some after)
    ∙ append_assoc first (coded bit after) rest in
    let long : length first ≡ 160 = length-coded before some in
    subst
    (λ (cells : List Bool).
    FrameStands 0x44894489 32 160 704 (NamesSector code track) SyncAt (Hold (size_of disk.size))
    cells sector bytes) (sym written)
    (record {
      begins = two_marks before (field 0xFE (address_of code track sector) ++ after) rest;
      named = names-sector code track sector before after rest (code-low disk.size) known.cylinder
          known.head (omega (arith, number.most, known.fills.few));
      opens = subst (λ (cells : List Bool). SyncAt cells 704) (sym apart)
          (ap (λ (cells : List Bool). take 48 cells) (drop-past first then 160 544 long)
          ∙ gap-sync bit (content bytes) rest);
      first = λ place above below sync.
          gap-free 0x448944894489 48 544 first
          then 160 place (lit≤ tt) (gap-free_of bit (content bytes) rest) long above below
          (subst (λ (cells : List Bool). SyncAt cells place) apart sync);
      held = subst (λ (n : ℕ). Hold n whole 704 bytes) size
          (holds code track sector bytes before rest fit);
    })
