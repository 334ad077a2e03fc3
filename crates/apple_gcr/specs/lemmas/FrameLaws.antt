-- A sector's frame as it is written, whatever comes after it: its header names the
-- sector, and its data hold the bytes.
use Rattle.std.specs.Prelude.{◌≡◌, ℕ, ◌+◌, ◌*◌, ◌<◌, Bool, true, false, List, [], ◌++◌, length}
use Rattle.std.specs.Prelude.{take, drop, get_or, refl}
use Rattle.std.proofs.Common.{ap, sym, subst, ◌∙◌, arith, append_assoc, append-nil, length-append}
use Rattle.std.proofs.Common.{lit<, lit≤}
use Rattle.flux_base.specs.declared.track.TrackId.{TrackId}
use Rattle.cell_bits.specs.Word.{number_of, word, word_cells}
use Rattle.cell_bits.specs.lemmas.WordLaws.{length-word_cells}
use Rattle.track_rings.specs.lemmas.Gaps.{begins, free_of, gap-free}
use Rattle.track_rings.specs.lemmas.Parts.{drop-past, take-first}
use Rattle.track_rings.specs.Rings.{IsSectorNumber, AreBytes}
use Rattle.track_rings.specs.Rows.{coded, rows_cells}
use Rattle.frame_law.specs.Frames.{EndsAt, FrameStands}
use Rattle.apple_gcr.specs.declared.layout.Row.TheVariants.{Address}
use Rattle.apple_gcr.specs.DiskBytes.{byte_read}
use Rattle.apple_gcr.specs.lemmas.ByteLaws.{strict-place, strict-read}
use Rattle.apple_gcr.specs.lemmas.RuleLaws.{header_ends, hold_by, names_by, data_ends}
use Rattle.apple_gcr.specs.lemmas.HalfLaws.{AreFieldBytes-halves, address_cells, in_halves}
use Rattle.apple_gcr.specs.Layout.{EPILOGUE, VOLUME, address_of, row_cells, rows}
use Rattle.apple_gcr.specs.lemmas.RowLaws.{address-fits}
use Rattle.apple_gcr.specs.Sectors.{Hold, IsAppleTrack, NamesSector, data_end, header_end}
use Rattle.apple_gcr.specs.Sectors.{opening_end, opening_place}
use Rattle.apple_gcr.specs.SixAndTwo.{data_nibbles, values_of}
use Rattle.apple_nibbles.specs.Marks.{ADDRESS_MARK, DATA_MARK, DATA_SYNC, IsSync, self_syncs}
use Rattle.apple_nibbles.specs.Nibbles.{bytes_cells, disk_byte}
use Rattle.apple_nibbles.specs.lemmas.FieldBytes.{bytes-read, disk_byte-past, length-bytes_cells}
use Rattle.apple_gcr.specs.lemmas.ValueLaws.{data_nibbles-are, get_or-data_nibbles}
use Rattle.apple_gcr.specs.lemmas.ValueLaws.{length-data_nibbles, length-values_of, values_of-carry}
use Rattle.apple_gcr.specs.lemmas.ValueLaws.{values_of-fit}

-- the epilogue and the gap from a header to the data, and the mark of the data
unfoldable gap_and_mark : List Bool
gap_and_mark = word_cells 24 EPILOGUE ++ (self_syncs 6 ++ word_cells 24 DATA_MARK)

-- a header's bytes after its mark
abbrev address_bytes : TrackId → ℕ → List ℕ
address_bytes track sector = in_halves (address_of track sector)

-- a frame's cells, and what comes after them
abbrev frame_of : TrackId → ℕ → List ℕ → List Bool → List Bool
frame_of track sector bytes rest =
    word_cells 24 ADDRESS_MARK
    ++ (bytes_cells (address_bytes track sector)
    ++ (gap_and_mark ++ (bytes_cells (data_nibbles bytes) ++ rest)))

regroup : (m a e g d n rest : List Bool)
    → (m ++ (a ++ (e ++ (g ++ (d ++ (n ++ [])))))) ++ rest
    ≡ m ++ (a ++ ((e ++ (g ++ d)) ++ (n ++ rest)))
regroup m a e g d n rest = simp (append_assoc, append-nil)

frame-cells : (track : TrackId) (sector : ℕ) (bytes : List ℕ) (before : Bool) (rest : List Bool)
    → rows_cells false (row_cells track) before sector bytes rows.frame ++ rest
    ≡ frame_of track sector bytes rest
unfolding rows_cells coded gap_and_mark
frame-cells track sector bytes before rest =
    let mark = word_cells 24 ADDRESS_MARK in
    regroup mark (row_cells track before sector bytes Address) (word_cells 24 EPILOGUE)
    (self_syncs 6) (word_cells 24 DATA_MARK) (bytes_cells (data_nibbles bytes)) rest
    ∙ ap
    (λ (cells : List Bool).
    mark ++ (cells ++ (gap_and_mark ++ (bytes_cells (data_nibbles bytes) ++ rest))))
    (address_cells track sector)

length-gap_and_mark : length gap_and_mark ≡ 108
unfolding gap_and_mark word_cells
length-gap_and_mark = refl

-- a header names its sector by the strict rule
names-sector : (track : TrackId) (sector : ℕ) (rest : List Bool) → IsAppleTrack track → sector < 16
    → NamesSector 0 track
    (word_cells 24 ADDRESS_MARK ++ (bytes_cells (address_bytes track sector) ++ rest)) sector
unfolding AreBytes
names-sector track sector rest known few =
    let mark = word_cells 24 ADDRESS_MARK in
    let bytes = address_bytes track sector in
    let fit = address-fits track sector known few in
    let cells = mark ++ (bytes_cells bytes ++ rest) in
    let at : (k : ℕ) → k < 8 → byte_read 0 cells 24 k ≡ get_or bytes k 0 =
    λ k within.
    strict-read cells 24 k
    ∙ bytes-read mark bytes rest 24 k (length-word_cells 24 ADDRESS_MARK)
    (AreFieldBytes-halves (address_of track sector) fit) within in
    record {
      volume = VOLUME;
      has_volume = record { fits = fit.0; first = at 0 (lit< tt); second = at 1 (lit< tt) };
      has_track = record { fits = fit.1.0; first = at 2 (lit< tt); second = at 3 (lit< tt) };
      has_sector = record { fits = fit.1.1.0; first = at 4 (lit< tt); second = at 5 (lit< tt) };
      has_check = record { fits = fit.1.1.1.0; first = at 6 (lit< tt); second = at 7 (lit< tt) };
    }

-- in the gap no sync stands, and after it the data's does, with AD after it
gap : (rest : List Bool)
    → (free_of (word_cells 16 DATA_SYNC) 84 (gap_and_mark ++ rest) ≡ true)
    × (take 16 (drop 84 (gap_and_mark ++ rest)) ≡ word_cells 16 DATA_SYNC)
    × (disk_byte (gap_and_mark ++ rest) 100 ≡ 0xAD)
unfolding free_of begins gap_and_mark word_cells disk_byte word number_of
gap rest = (refl, refl, refl)

-- data hold their bytes by the strict rule
holds : (header : List Bool) (bytes : List ℕ) (rest : List Bool) → length header ≡ 88
    → AreBytes bytes → length bytes ≡ 256
    → Hold 0 (header ++ (gap_and_mark ++ (bytes_cells (data_nibbles bytes) ++ rest))) 172 bytes
holds header bytes rest header_size fit size =
    let last = bytes_cells (data_nibbles bytes) ++ rest in
    let front = header ++ gap_and_mark in
    let front_size : length front ≡ 196 =
    omega (arith, length-append header gap_and_mark, header_size, length-gap_and_mark) in
    let cells = header ++ (gap_and_mark ++ last) in
    let at : opening_place 0 cells 172 ≡ 188 = strict-place cells 188 in
    let from : opening_end 0 cells 172 ≡ 196 = ap (λ (n : ℕ). n + 8) at in
    record {
      opens = ap (disk_byte cells) at
          ∙ disk_byte-past header (gap_and_mark ++ last) 88 100 header_size ∙ (gap last).2;
      values = values_of bytes;
      coded = record {
        count = length-values_of bytes;
        fit = λ k. values_of-fit bytes k fit;
        stand = λ k within.
            ap (λ (n : ℕ). byte_read 0 cells n k) from ∙ strict-read cells 196 k
            ∙ ap (λ (cells : List Bool). disk_byte cells (196 + 8 * k))
            (sym (append_assoc header gap_and_mark last))
            ∙ bytes-read front (data_nibbles bytes) rest 196 k front_size
            (data_nibbles-are bytes fit) (omega (arith, length-data_nibbles bytes, within))
            ∙ get_or-data_nibbles bytes k within;
      };
      carried = values_of-carry bytes size;
    }

-- the rows of a frame are read back by the strict rule
frame_strict : (track : TrackId) (sector : ℕ) (bytes : List ℕ) (before : Bool) (rest : List Bool)
    → IsAppleTrack track → IsSectorNumber 0 16 sector
    → AreBytes bytes → length bytes ≡ 256
    → FrameStands 0xD5AA96 24 88 172 (NamesSector 0 track) IsSync (Hold 0)
    (rows_cells false (row_cells track) before sector bytes rows.frame ++ rest) sector bytes
frame_strict track sector bytes before rest known number fit size =
    let mark = word_cells 24 ADDRESS_MARK in
    let field = bytes_cells (address_bytes track sector) in
    let header = mark ++ field in
    let behind = bytes_cells (data_nibbles bytes) ++ rest in
    let header_size : length header ≡ 88 =
    omega (
      arith,
      length-append mark field,
      length-word_cells 24 ADDRESS_MARK,
      length-bytes_cells (address_bytes track sector),
    ) in
    let grouped : frame_of track sector bytes rest ≡ header ++ (gap_and_mark ++ behind) =
    sym (append_assoc mark field (gap_and_mark ++ behind)) in
    subst
    (λ (cells : List Bool).
    FrameStands 0xD5AA96 24 88 172 (NamesSector 0 track) IsSync (Hold 0) cells sector bytes)
    (sym (frame-cells track sector bytes before rest))
    (record {
      begins = take-first mark (field ++ (gap_and_mark ++ behind)) 24
          (length-word_cells 24 ADDRESS_MARK);
      named = names-sector track sector (gap_and_mark ++ behind) known (omega (arith, number.most));
      opens = subst (λ (cells : List Bool). IsSync cells 172) (sym grouped)
          (ap (take 16) (drop-past header (gap_and_mark ++ behind) 88 84 header_size)
          ∙ (gap behind).1);
      first = λ place above below.
          subst (λ (cells : List Bool). ¬ IsSync cells place) (sym grouped)
          (gap-free DATA_SYNC 16 84 header (gap_and_mark ++ behind) 88 place (lit≤ tt)
          (gap behind).0 header_size above below);
      held = subst (λ (cells : List Bool). Hold 0 cells 172 bytes) (sym grouped)
          (holds header bytes rest header_size fit size);
    })

-- and so by every rule
pub frame_stands : (passed : ℕ) (track : TrackId) (sector : ℕ) (bytes : List ℕ) (before : Bool)
    (rest : List Bool)
    → IsAppleTrack track
    → IsSectorNumber 0 16 sector → AreBytes bytes → length bytes ≡ 256
    → FrameStands 0xD5AA96 24 88 172 (NamesSector passed track) IsSync (Hold passed)
    (rows_cells false (row_cells track) before sector bytes rows.frame ++ rest) sector bytes
frame_stands passed track sector bytes before rest known number fit size =
    let cells = rows_cells false (row_cells track) before sector bytes rows.frame ++ rest in
    let strict = frame_strict track sector bytes before rest known number fit size in
    record {
      begins = strict.begins;
      named = names_by passed track cells sector strict.named;
      opens = strict.opens;
      first = strict.first;
      held = hold_by passed cells 172 bytes strict.held;
    }

-- and ends where it does by the strict rule
pub frame_ends : (passed : ℕ) (track : TrackId) (sector : ℕ) (bytes : List ℕ) (before : Bool)
    (rest : List Bool)
    → IsAppleTrack track
    → IsSectorNumber 0 16 sector → AreBytes bytes → length bytes ≡ 256
    → EndsAt 88 2768 172 (header_end passed) (data_end passed)
    (rows_cells false (row_cells track) before sector bytes rows.frame ++ rest)
frame_ends passed track sector bytes before rest known number fit size =
    let cells = rows_cells false (row_cells track) before sector bytes rows.frame ++ rest in
    let strict = frame_strict track sector bytes before rest known number fit size in
    record {
      header_ends = header_ends passed track cells sector strict.named;
      data_ends = data_ends passed cells 172 bytes strict.held;
    }
