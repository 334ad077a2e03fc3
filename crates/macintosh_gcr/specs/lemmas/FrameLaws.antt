-- A sector's frame as it is written, whatever comes after it: its header names the
-- sector, and its data hold the bytes.
use Rattle.std.specs.Prelude.{◌≡◌, ℕ, suc, ◌+◌, ◌*◌, ◌<◌, Bool, true, false, List, [], ◌++◌, length}
use Rattle.std.specs.Prelude.{take, drop, replicate, refl}
use Rattle.std.proofs.Common.{ap, sym, subst, ◌∙◌, arith, append_assoc, append-nil, length-append}
use Rattle.std.proofs.Common.{lit<, lit≤}
use Rattle.flux_base.specs.declared.track.TrackId.{TrackId}
use Rattle.cell_bits.specs.Word.{number_of, word, word_cells}
use Rattle.cell_bits.specs.lemmas.WordLaws.{length-word_cells}
use Rattle.track_rings.specs.lemmas.Gaps.{begins, free_of, gap-free}
use Rattle.track_rings.specs.lemmas.Parts.{drop-past, take-first}
use Rattle.track_rings.specs.Rings.{IsSectorNumber, AreBytes}
use Rattle.track_rings.specs.Rows.{coded, rows_cells}
use Rattle.frame_law.specs.Frames.{FrameStands}
use Rattle.apple_nibbles.specs.Marks.{ADDRESS_MARK, DATA_MARK, DATA_SYNC, IsSync, self_syncs}
use Rattle.apple_nibbles.specs.Nibbles.{disk_byte}
use Rattle.apple_nibbles.specs.lemmas.FieldBytes.{disk_byte-past}
use Rattle.macintosh_gcr.specs.Coding.{NO_SUMS, data_values, with_tags}
use Rattle.macintosh_gcr.specs.Layout.{EPILOGUE, field_values, format_of, nibble_cells, row_cells}
use Rattle.macintosh_gcr.specs.Layout.{rows}
use Rattle.macintosh_gcr.specs.Sectors.{Hold, IsMacintoshTrack, NamesSector, NibblesAt}
use Rattle.macintosh_gcr.specs.Sectors.{header_values, sectors_of}
use Rattle.macintosh_gcr.specs.declared.recording.MacintoshGcr.{MacintoshGcr}
use Rattle.macintosh_gcr.specs.lemmas.CodingLaws.{length-with_tags, with_tags-fit, with_tags-is}
use Rattle.macintosh_gcr.specs.lemmas.RowLaws.{few-heads, field-fit, format-fits, header-fit}
use Rattle.macintosh_gcr.specs.lemmas.RowLaws.{length-field_values, low-sector, side-fits}
use Rattle.macintosh_gcr.specs.lemmas.Values.{length-nibble_cells, nibbles-read}

-- the epilogue and the gap from a header to the data, and the mark of the data
unfoldable gap_and_mark : List Bool
gap_and_mark = word_cells 24 EPILOGUE ++ (self_syncs 6 ++ word_cells 24 DATA_MARK)

-- a header
unfoldable header_cells : MacintoshGcr → TrackId → ℕ → List Bool
header_cells disk track sector =
    word_cells 24 ADDRESS_MARK ++ nibble_cells (header_values track sector (format_of disk))

regroup : (m a e g d n rest : List Bool)
    → (m ++ (a ++ (e ++ (g ++ (d ++ (n ++ [])))))) ++ rest
    ≡ (m ++ a) ++ ((e ++ (g ++ d)) ++ (n ++ rest))
regroup m a e g d n rest = simp (append_assoc, append-nil)

frame-cells : (disk : MacintoshGcr) (track : TrackId) (sector : ℕ) (bytes : List ℕ) (before : Bool)
    (rest : List Bool)
    → rows_cells false (row_cells disk track) before sector bytes rows.frame ++ rest
    ≡ header_cells disk track sector
    ++ (gap_and_mark ++ (nibble_cells (field_values sector bytes) ++ rest))
unfolding rows_cells coded gap_and_mark header_cells
frame-cells disk track sector bytes before rest =
    regroup (word_cells 24 ADDRESS_MARK)
    (nibble_cells (header_values track sector (format_of disk))) (word_cells 24 EPILOGUE)
    (self_syncs 6)
    (word_cells 24 DATA_MARK) (nibble_cells (field_values sector bytes)) rest

length-gap_and_mark : length gap_and_mark ≡ 108
unfolding gap_and_mark word_cells
length-gap_and_mark = refl

length-header_cells : (disk : MacintoshGcr) (track : TrackId) (sector : ℕ)
    → length (header_cells disk track sector) ≡ 64
unfolding header_cells
length-header_cells disk track sector =
    let values = header_values track sector (format_of disk) in
    omega (
      arith,
      length-append (word_cells 24 ADDRESS_MARK) (nibble_cells values),
      length-word_cells 24 ADDRESS_MARK,
      length-nibble_cells values,
    )

-- a header names its sector
names-sector : (disk : MacintoshGcr) (track : TrackId) (sector : ℕ) (rest : List Bool)
    → IsMacintoshTrack disk track → sector < 64
    → NamesSector track (header_cells disk track sector ++ rest) sector
unfolding header_cells
names-sector disk track sector rest known few =
    let mark = word_cells 24 ADDRESS_MARK in
    let values = header_values track sector (format_of disk) in (
      format_of disk,
      record {
        format_fits = format-fits disk;
        low_fits = omega arith;
        side_fits = side-fits track known.cylinder
            (let heads = few-heads disk in omega (arith, heads, known.head));
        sector_fits = few;
        values = subst (λ (cells : List Bool). NibblesAt cells 24 values)
            (sym (append_assoc mark (nibble_cells values) rest))
            (nibbles-read mark values rest 24 (length-word_cells 24 ADDRESS_MARK)
            (header-fit disk track sector known few));
      },
    )

-- the mark stands first
begins-so : (disk : MacintoshGcr) (track : TrackId) (sector : ℕ) (rest : List Bool)
    → take 24 (header_cells disk track sector ++ rest) ≡ word_cells 24 ADDRESS_MARK
unfolding header_cells
begins-so disk track sector rest =
    let mark = word_cells 24 ADDRESS_MARK in
    let values = nibble_cells (header_values track sector (format_of disk)) in
    ap (take 24) (append_assoc mark values rest)
    ∙ take-first mark (values ++ rest) 24 (length-word_cells 24 ADDRESS_MARK)

-- in the gap no sync stands, and after it the data's does, with AD after it
gap : (rest : List Bool)
    → (free_of (word_cells 16 DATA_SYNC) 84 (gap_and_mark ++ rest) ≡ true)
    × (take 16 (drop 84 (gap_and_mark ++ rest)) ≡ word_cells 16 DATA_SYNC)
    × (disk_byte (gap_and_mark ++ rest) 100 ≡ 0xAD)
unfolding free_of begins gap_and_mark word_cells disk_byte word number_of
gap rest = (refl, refl, refl)

-- data hold their bytes
holds : (disk : MacintoshGcr) (track : TrackId) (sector : ℕ) (bytes : List ℕ) (rest : List Bool)
    → IsMacintoshTrack disk track → sector < 64
    → AreBytes bytes → length bytes ≡ 512
    → Hold
    (header_cells disk track sector
    ++ (gap_and_mark ++ (nibble_cells (field_values sector bytes) ++ rest))) 148 bytes
holds disk track sector bytes rest known few fit size =
    let header = header_cells disk track sector in
    let values = field_values sector bytes in
    let last = nibble_cells values ++ rest in
    let front = header ++ gap_and_mark in
    let cells = header ++ (gap_and_mark ++ last) in
    let header_size = length-header_cells disk track sector in
    let front_size : length front ≡ 172 =
    omega (arith, length-append header gap_and_mark, header_size, length-gap_and_mark) in
    let stand : NibblesAt cells 172 values =
    subst (λ (some : List Bool). NibblesAt some 172 values) (append_assoc header gap_and_mark last)
    (nibbles-read front values rest 172 front_size (field-fit sector bytes few fit)) in
    let names = names-sector disk track sector (gap_and_mark ++ last) known few in
    let all = length-field_values sector bytes in
    let tags = with_tags-is bytes size in
    record {
      opens = disk_byte-past header (gap_and_mark ++ last) 64 100 header_size ∙ (gap last).2;
      of_sector = stand 0 (omega (arith, all)) ∙ sym (names.1.values 1 (lit< tt));
      tags = replicate 12 0;
      coded_values = data_values 0 NO_SUMS (with_tags bytes);
      tags_size = refl;
      size = size;
      coded = record {
        spare = 0;
        spare_fits = lit< tt;
        size = ap length (sym tags) ∙ length-with_tags bytes;
        fit = subst AreBytes tags (with_tags-fit bytes fit);
        values_are = ap (data_values 0 NO_SUMS) tags;
      };
      stand = λ k within.
          let e : 172 + 8 * suc k ≡ 148 + 32 + 8 * k = omega arith in
          ap (disk_byte cells) (sym e) ∙ stand (suc k) (omega (arith, within));
    }

-- the rows of a frame are read back
pub frame_stands : (disk : MacintoshGcr) (track : TrackId) (sector : ℕ) (bytes : List ℕ)
    (before : Bool) (rest : List Bool)
    → IsMacintoshTrack disk track
    → IsSectorNumber 0 (sectors_of track) sector → AreBytes bytes → length bytes ≡ 512
    → FrameStands 0xD5AA96 24 64 148 (NamesSector track) IsSync Hold
    (rows_cells false (row_cells disk track) before sector bytes rows.frame ++ rest) sector
    bytes
frame_stands disk track sector bytes before rest known number fit size =
    let header = header_cells disk track sector in
    let behind = nibble_cells (field_values sector bytes) ++ rest in
    let header_size = length-header_cells disk track sector in
    let few = low-sector track sector number.most in
    subst
    (λ (cells : List Bool).
    FrameStands 0xD5AA96 24 64 148 (NamesSector track) IsSync Hold cells sector bytes)
    (sym (frame-cells disk track sector bytes before rest))
    (record {
      begins = begins-so disk track sector (gap_and_mark ++ behind);
      named = names-sector disk track sector (gap_and_mark ++ behind) known few;
      opens = ap (take 16) (drop-past header (gap_and_mark ++ behind) 64 84 header_size)
          ∙ (gap behind).1;
      first = λ place above below.
          gap-free DATA_SYNC 16 84 header (gap_and_mark ++ behind) 64 place (lit≤ tt) (gap behind).0
          header_size above below;
      held = holds disk track sector bytes rest known few fit size;
    })
