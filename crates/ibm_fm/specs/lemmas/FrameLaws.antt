-- A sector's frame as it is written, whatever comes after it: its header names the
-- sector, and its data hold the bytes.
use Rattle.std.specs.Prelude.{◌≡◌, ℕ, ◌+◌, ◌*◌, ◌<◌, ◌≤◌, Bool, true, false, List, [], ◌∷◌, ◌++◌}
use Rattle.std.specs.Prelude.{length, take, drop, replicate, refl}
use Rattle.std.proofs.Common.{ap, sym, subst, ◌∙◌, arith, append_assoc, append-nil, inl, inr}
use Rattle.std.proofs.Common.{length-append, lit<, lit≤}
use Rattle.flux_base.specs.declared.track.TrackId.{TrackId}
use Rattle.cell_bits.specs.Bytes.{data_byte, data_cells, fm, fm_cells}
use Rattle.cell_bits.specs.Word.{Stands, number_of, word_cells}
use Rattle.cell_bits.specs.lemmas.WordLaws.{length-word_cells}
use Rattle.track_rings.specs.lemmas.Gaps.{begins, free_of, gap-free}
use Rattle.track_rings.specs.lemmas.Parts.{drop-past, take-first}
use Rattle.track_rings.specs.Rings.{IsSectorNumber, AreBytes}
use Rattle.track_rings.specs.Rows.{coded, rows_cells}
use Rattle.frame_law.specs.Frames.{FrameStands}
use Rattle.ibm_disks.specs.Numbers.{code_of, size_of}
use Rattle.ibm_disks.specs.lemmas.NumberLaws.{code-low}
use Rattle.ibm_fields.specs.Fields.{DATA_BYTE, high_first, number_at}
use Rattle.ibm_fields.specs.lemmas.FieldLaws.{bytes_at-past, data_byte-past, number_at-past}
use Rattle.ibm_fields.specs.lemmas.Numbers.{crc-lt}
use Rattle.ibm_fm.specs.declared.recording.IbmFm.{IbmFm}
use Rattle.ibm_fm.specs.Disks.{IsFmTrack}
use Rattle.ibm_fm.specs.Layout.{field_cells, fm_bytes, row_cells, rows_of}
use Rattle.ibm_fm.specs.lemmas.ReadLaws.{number_at-after, reads-first}
use Rattle.ibm_fm.specs.lemmas.RowLaws.{length-fm_bytes}
use Rattle.ibm_fm.specs.Sectors.{Hold, IsSync, NamesSector, address_of, check_of}

-- the gap from a header to the data, and the data mark
unfoldable gap_and_mark : List Bool
gap_and_mark = fm_bytes (replicate 11 0xFF) ++ (fm_bytes (replicate 6 0x00) ++ word_cells 16 0xF56F)

-- a frame's cells, and what comes after them
abbrev frame_of : ℕ → TrackId → ℕ → List ℕ → List Bool → List Bool
frame_of code track sector bytes rest = word_cells 16 0xF57E
    ++ (field_cells 0xFE (address_of code track sector)
    ++ (gap_and_mark ++ (field_cells 0xFB bytes ++ rest)))

regroup : (i a g z m f rest : List Bool)
    → (i ++ (a ++ (g ++ (z ++ (m ++ (f ++ [])))))) ++ rest
    ≡ i ++ (a ++ ((g ++ (z ++ m)) ++ (f ++ rest)))
regroup i a g z m f rest = simp (append_assoc, append-nil)

frame-cells : (recording : IbmFm) (track : TrackId) (sector : ℕ) (bytes : List ℕ) (before : Bool)
    (rest : List Bool)
    → rows_cells false (row_cells recording.numbers track) before sector bytes
    (rows_of recording.numbers).frame
    ++ rest
    ≡ frame_of (code_of recording.numbers.size) track sector bytes rest
unfolding rows_cells coded gap_and_mark
frame-cells recording track sector bytes before rest =
    regroup (word_cells 16 0xF57E)
    (field_cells 0xFE (address_of (code_of recording.numbers.size) track sector))
    (fm_bytes (replicate 11 0xFF))
    (fm_bytes (replicate 6 0x00)) (word_cells 16 0xF56F) (field_cells 0xFB bytes) rest

length-field_cells : (mark : ℕ) (bytes : List ℕ)
    → length (field_cells mark bytes) ≡ 16 * (length bytes + 2)
length-field_cells mark bytes =
    let check = high_first (check_of mark bytes) in
    length-fm_bytes (bytes ++ check) ∙ ap (λ (n : ℕ). 16 * n) (length-append bytes check)

length-gap_and_mark : length gap_and_mark ≡ 288
unfolding gap_and_mark fm fm_cells word_cells
length-gap_and_mark = refl

-- the mark of a header, and what comes after it
mark-begins : (rest : List Bool) → Stands (word_cells 16 0xF57E ++ rest) 0xF57E 16 0
mark-begins rest = take-first (word_cells 16 0xF57E) rest 16 (length-word_cells 16 0xF57E)

-- a header names its sector
names-sector : (code : ℕ) (track : TrackId) (sector : ℕ) (rest : List Bool) → code < 256
    → track.cylinder < 256 → track.head < 256 → sector < 256
    → NamesSector code track
    (word_cells 16 0xF57E ++ (field_cells 0xFE (address_of code track sector) ++ rest)) sector
unfolding AreBytes
names-sector code track sector rest of_code of_cylinder of_head of_sector =
    let mark = word_cells 16 0xF57E in
    let address = address_of code track sector in
    let check = high_first (check_of 0xFE address) in
    let behind = field_cells 0xFE address ++ rest in
    let size : length mark ≡ 16 = length-word_cells 16 0xF57E in
    let fit : AreBytes address = (of_cylinder, (of_head, (of_sector, (of_code, tt)))) in
    record {
      address = bytes_at-past mark behind 16 0 4 size ∙ reads-first address check rest fit;
      check = number_at-past mark behind 16 64 size
          ∙ number_at-after address (check_of 0xFE address) rest
          (crc-lt 0xFFFF (0xFE ∷ address) (lit< tt));
    }

-- in the gap no mark stands, and after it the data's does
free_of_marks : (rest : List Bool)
    → (free_of (word_cells 16 0xF57E) 272 (gap_and_mark ++ rest) ≡ true)
    × (free_of (word_cells 16 0xF56F) 272 (gap_and_mark ++ rest) ≡ true)
    × (free_of (word_cells 16 0xF56A) 272 (gap_and_mark ++ rest) ≡ true)
    × (free_of (word_cells 16 0xF77A) 272 (gap_and_mark ++ rest) ≡ true)
unfolding free_of begins gap_and_mark fm fm_cells word_cells
free_of_marks rest = (refl, refl, refl, refl)

gap_mark : (rest : List Bool) → take 16 (drop 272 (gap_and_mark ++ rest)) ≡ word_cells 16 0xF56F
unfolding gap_and_mark fm fm_cells word_cells
gap_mark rest = refl

gap_byte : (rest : List Bool) → data_byte (gap_and_mark ++ rest) 272 ≡ 0xFB
unfolding gap_and_mark fm fm_cells word_cells data_byte data_cells number_of
gap_byte rest = refl

no-mark : (header rest : List Bool) (place : ℕ) → length header ≡ 112 → 112 ≤ place → place < 384
    → ¬ IsSync (header ++ (gap_and_mark ++ rest)) place
no-mark header rest place size above below some =
    let gap = gap_and_mark ++ rest in
    let free = free_of_marks rest in
    let none : (mark : ℕ) → free_of (word_cells 16 mark) 272 gap ≡ true
    → ¬ Stands (header ++ gap) mark 16 place =
    λ mark none_there.
    gap-free mark 16 272 header gap 112 place (lit≤ tt) none_there size above below in
    elim some [
      | inl data_mark ↦ elim data_mark [
        | inl stands ↦ none 0xF56F free.1 stands
        | inr stands ↦ none 0xF56A free.2 stands
      ]
      | inr other ↦ elim other [
        | inl stands ↦ none 0xF57E free.0 stands
        | inr stands ↦ none 0xF77A free.3 stands
      ]
    ]

-- the mark of data, the byte FB
data_mark : (header rest : List Bool) → length header ≡ 112
    → data_byte (header ++ (gap_and_mark ++ rest)) 384 ≡ 0xFB
data_mark header rest header_size =
    data_byte-past header (gap_and_mark ++ rest) 112 272 header_size ∙ gap_byte rest

-- data hold their bytes
holds : (header : List Bool) (bytes : List ℕ) (rest : List Bool) → length header ≡ 112
    → AreBytes bytes
    → Hold (length bytes) (header ++ (gap_and_mark ++ (field_cells 0xFB bytes ++ rest))) 384 bytes
holds header bytes rest header_size fit =
    let size = length bytes in
    let check = high_first (check_of 0xFB bytes) in
    let behind = field_cells 0xFB bytes ++ rest in
    let gap = gap_and_mark ++ behind in
    let byte = data_mark header behind header_size in
    let place : 384 + 16 * (size + 1) ≡ 112 + (288 + 16 * size) = omega arith in
    record {
      opens = inl (ap (take 16) (drop-past header gap 112 272 header_size) ∙ gap_mark behind);
      content = bytes_at-past header gap 112 288 size header_size
          ∙ bytes_at-past gap_and_mark behind 288 0 size length-gap_and_mark
          ∙ reads-first bytes check rest fit;
      check = ap (number_at (header ++ gap)) place
          ∙ number_at-past header gap 112 (288 + 16 * size) header_size
          ∙ number_at-past gap_and_mark behind 288 (16 * size) length-gap_and_mark
          ∙ number_at-after bytes (check_of 0xFB bytes) rest
          (crc-lt 0xFFFF (0xFB ∷ bytes) (lit< tt))
          ∙ ap (λ (mark : ℕ). check_of mark bytes) (sym byte);
    }

-- a header's cells
abbrev header_of : ℕ → TrackId → ℕ → List Bool
header_of code track sector = word_cells 16 0xF57E ++ field_cells 0xFE (address_of code track sector)

length-header_of : (code : ℕ) (track : TrackId) (sector : ℕ)
    → length (header_of code track sector) ≡ 112
length-header_of code track sector =
    let address = address_of code track sector in
    omega (
      arith,
      length-append (word_cells 16 0xF57E) (field_cells 0xFE address),
      length-word_cells 16 0xF57E,
      length-field_cells 0xFE address,
    )

frame-grouped : (code : ℕ) (track : TrackId) (sector : ℕ) (bytes : List ℕ) (rest : List Bool)
    → frame_of code track sector bytes rest
    ≡ header_of code track sector ++ (gap_and_mark ++ (field_cells 0xFB bytes ++ rest))
frame-grouped code track sector bytes rest =
    sym
    (append_assoc (word_cells 16 0xF57E) (field_cells 0xFE (address_of code track sector))
    (gap_and_mark ++ (field_cells 0xFB bytes ++ rest)))

-- so the rows of a frame have that mark
pub rows_mark : (recording : IbmFm) (track : TrackId) (sector : ℕ) (bytes : List ℕ) (before : Bool)
    → data_byte
    (rows_cells false (row_cells recording.numbers track) before sector bytes
    (rows_of recording.numbers).frame) 384
    ≡ DATA_BYTE
rows_mark recording track sector bytes before =
    let code = code_of recording.numbers.size in
    ap (λ (cells : List Bool). data_byte cells 384)
    (sym
    (append-nil
    (rows_cells false (row_cells recording.numbers track) before sector bytes
    (rows_of recording.numbers).frame))
    ∙ frame-cells recording track sector bytes before []
    ∙ frame-grouped code track sector bytes [])
    ∙ data_mark (header_of code track sector) (field_cells 0xFB bytes ++ [])
    (length-header_of code track sector)

-- the rows of a frame are read back
pub frame_stands : (recording : IbmFm) (track : TrackId) (sector : ℕ) (bytes : List ℕ)
    (before : Bool) (rest : List Bool)
    → IsFmTrack recording track
    → IsSectorNumber recording.numbers.first_sector recording.numbers.sectors sector
    → AreBytes bytes → length bytes ≡ (size_of recording.numbers.size)
    → FrameStands 0xF57E 16 112 384 (NamesSector (code_of recording.numbers.size) track) IsSync
    (Hold (size_of recording.numbers.size))
    (rows_cells false (row_cells recording.numbers track) before sector bytes
    (rows_of recording.numbers).frame
    ++ rest) sector bytes
frame_stands recording track sector bytes before rest known number fit size =
    let code = (code_of recording.numbers.size) in
    let field = field_cells 0xFE (address_of code track sector) in
    let header = header_of code track sector in
    let behind = field_cells 0xFB bytes ++ rest in
    let header_size = length-header_of code track sector in
    let grouped = frame-grouped code track sector bytes rest in
    let data_held = holds header bytes rest header_size fit in
    subst
    (λ (cells : List Bool).
    FrameStands 0xF57E 16 112 384 (NamesSector code track) IsSync
    (Hold (size_of recording.numbers.size)) cells sector bytes)
    (sym (frame-cells recording track sector bytes before rest))
    (record {
      begins = mark-begins (field ++ (gap_and_mark ++ behind));
      named = names-sector code track sector (gap_and_mark ++ behind)
          (code-low recording.numbers.size) (omega (arith, known.cylinder))
          (omega (arith, known.head)) (omega (arith, number.most, known.fills.few));
      opens = subst (λ (cells : List Bool). IsSync cells 384) (sym grouped) (inl data_held.opens);
      first = λ place above below.
          subst (λ (cells : List Bool). ¬ IsSync cells place) (sym grouped)
          (no-mark header behind place header_size above below);
      held = subst (λ (cells : List Bool). Hold (size_of recording.numbers.size) cells 384 bytes)
          (sym grouped)
          (subst (λ (n : ℕ). Hold n (header ++ (gap_and_mark ++ behind)) 384 bytes) size data_held);
    })
