-- A sector's frame as it is written, whatever comes after it: its header names the
-- sector, and its data hold the bytes.
use Rattle.std.specs.Prelude.{◌≡◌, ℕ, suc, ◌+◌, ◌*◌, ◌%◌, ◌<◌, Bool, true, false, List, [], ◌∷◌}
use Rattle.std.specs.Prelude.{◌++◌, length, take, drop, get_or, replicate, refl, bit_xor}
use Rattle.std.specs.List.{fold}
use Rattle.std.proofs.Common.{ap, sym, subst, ◌∙◌, arith, append_assoc, append-nil, length-append}
use Rattle.std.proofs.Common.{lit<, lit≤}
use Rattle.std.proofs.lemmas.List.Concat.{flat_map-append}
use Rattle.std.proofs.lemmas.Nat.{xor_mod, xor_of_8}
use Rattle.std.proofs.Math.ListN.{get_or-append}
use Rattle.std.proofs.Math.Nat.{mod-eq_of_lt, mod-lt}
use Rattle.std.proofs.Math.Seq.{get_or-append_seam}
use Rattle.flux_base.specs.declared.track.TrackId.{TrackId}
use Rattle.check_values.specs.Sums.{xor}
use Rattle.cell_bits.specs.Word.{word_cells}
use Rattle.track_rings.specs.lemmas.Gaps.{begins, free_of, gap-free}
use Rattle.track_rings.specs.lemmas.Parts.{drop-past}
use Rattle.track_rings.specs.Rings.{IsSectorNumber, AreBytes}
use Rattle.track_rings.specs.Rows.{coded, rows_cells}
use Rattle.frame_law.specs.Frames.{FrameStands}
use Rattle.commodore_gcr.specs.declared.drive.CommodoreDrive.{CommodoreDrive}
use Rattle.commodore_gcr.specs.declared.recording.CommodoreGcr.{CommodoreGcr}
use Rattle.commodore_gcr.specs.Coding.{ByteAt, BytesAt, code_of, gcr, gcr_bytes}
use Rattle.commodore_gcr.specs.lemmas.CodingLaws.{BytesAt-front, BytesAt-past, gcr-mod}
use Rattle.commodore_gcr.specs.lemmas.CodingLaws.{length-gcr_bytes}
use Rattle.commodore_gcr.specs.Layout.{gap_cells, row_cells, rows}
use Rattle.commodore_gcr.specs.Sectors.{Hold, IsSync, NamesSector, address_of, data_bytes}
use Rattle.commodore_gcr.specs.Sectors.{header_bytes}
use Rattle.commodore_gcr.specs.lemmas.ZoneLaws.{counts, number_fits}
use Rattle.commodore_gcr.specs.Zones.{IsCommodoreTrack, sectors_of, track_number}

-- the header's cells: the sync's ones and six bytes
unfoldable header_cells : CommodoreDrive → ℕ → ℕ → TrackId → ℕ → List Bool
header_cells drive id1 id2 track sector =
    replicate 10 true ++ gcr_bytes (header_bytes drive id1 id2 track sector)

-- from there to the data block: what fills the header block up, the gap, and the sync mark
unfoldable between : List Bool
between = gcr_bytes (0x0F ∷ 0x0F ∷ []) ++ (gap_cells 9 ++ (replicate 30 true ++ replicate 10 true))

regroup : (o h f g l s d rest : List Bool)
    → (o ++ ((h ++ f) ++ (g ++ (l ++ (s ++ (d ++ [])))))) ++ rest
    ≡ (o ++ h) ++ ((f ++ (g ++ (l ++ s))) ++ (d ++ rest))
regroup o h f g l s d rest = simp (append_assoc, append-nil)

frame-cells : (disk : CommodoreGcr) (track : TrackId) (sector : ℕ) (bytes : List ℕ) (before : Bool)
    (rest : List Bool)
    → rows_cells false (row_cells disk track) before sector bytes rows.frame ++ rest
    ≡ header_cells disk.drive disk.id1 disk.id2 track sector
    ++ (between ++ (gcr_bytes (data_bytes bytes) ++ rest))
unfolding rows_cells coded header_cells between
frame-cells disk track sector bytes before rest =
    let header = header_bytes disk.drive disk.id1 disk.id2 track sector in
    let data_cells = gcr_bytes (data_bytes bytes) in
    ap
    (λ (block : List Bool).
    (replicate 10 true
    ++ (block
    ++ (gap_cells 9 ++ (replicate 30 true ++ (replicate 10 true ++ (data_cells ++ []))))))
    ++ rest)
    (flat_map-append gcr header (0x0F ∷ 0x0F ∷ []))
    ∙ regroup (replicate 10 true) (gcr_bytes header) (gcr_bytes (0x0F ∷ 0x0F ∷ [])) (gap_cells 9)
    (replicate 30 true) (replicate 10 true) data_cells rest

length-header_cells : (drive : CommodoreDrive) (id1 id2 : ℕ) (track : TrackId) (sector : ℕ)
    → length (header_cells drive id1 id2 track sector) ≡ 70
unfolding header_cells
length-header_cells drive id1 id2 track sector =
    omega (
      arith,
      length-append (replicate 10 true) (gcr_bytes (header_bytes drive id1 id2 track sector)),
      length-gcr_bytes (header_bytes drive id1 id2 track sector),
    )

length-between : length between ≡ 132
unfolding between gcr word_cells
length-between = refl

-- check values are bytes
xor-lt : (numbers : List ℕ) (start : ℕ) → start < 256 → AreBytes numbers
    → fold bit_xor start numbers < 256
unfolding AreBytes
xor-lt [] start low fit = low
xor-lt (number ∷ numbers) start low fit =
    xor-lt numbers (bit_xor start number) (xor_of_8 start number low fit.0) fit.1

AreBytes-append : (xs ys : List ℕ) → AreBytes xs → AreBytes ys → AreBytes (xs ++ ys)
unfolding AreBytes
AreBytes-append [] ys first second = second
AreBytes-append (x ∷ xs) ys first second = (first.0, AreBytes-append xs ys first.1 second)

AreBytes-data : (bytes : List ℕ) → AreBytes bytes → AreBytes (data_bytes bytes)
unfolding AreBytes
AreBytes-data bytes fit =
    (lit< tt, AreBytes-append bytes (xor bytes ∷ []) fit (xor-lt bytes 0 (lit< tt) fit, tt))

-- of the ids no more than their low eight bits are written
address-mod : (drive : CommodoreDrive) (id1 id2 : ℕ) (track : TrackId) (sector : ℕ)
    → IsCommodoreTrack drive track → sector < 256
    → xor (address_of drive id1 id2 track sector) % 256
    ≡ xor (address_of drive (id1 % 256) (id2 % 256) track sector)
address-mod drive id1 id2 track sector known low =
    let first = bit_xor 0 sector in
    let number = track_number drive track in
    let both = bit_xor first number in
    let both_low : both < 256 =
    xor_of_8 first number (xor_of_8 0 sector (lit< tt) low) (number_fits drive track known) in
    let with_second : bit_xor both id2 % 256 ≡ bit_xor both (id2 % 256) =
    xor_mod both id2 8 ∙ ap (λ (n : ℕ). bit_xor n (id2 % 256)) (mod-eq_of_lt both_low) in
    xor_mod (bit_xor both id2) id1 8 ∙ ap (λ (n : ℕ). bit_xor n (id1 % 256)) with_second

header_cells-mod : (drive : CommodoreDrive) (id1 id2 : ℕ) (track : TrackId) (sector : ℕ)
    → IsCommodoreTrack drive track → sector < 256
    → header_cells drive id1 id2 track sector
    ≡ header_cells drive (id1 % 256) (id2 % 256) track sector
unfolding header_cells
header_cells-mod drive id1 id2 track sector known low =
    let check = xor (address_of drive id1 id2 track sector) in
    let low_check = xor (address_of drive (id1 % 256) (id2 % 256) track sector) in
    let same : gcr check ≡ gcr low_check =
    gcr-mod check ∙ ap gcr (address-mod drive id1 id2 track sector known low) in
    let number = gcr (track_number drive track) in
    let header : List Bool → List Bool → List Bool → List Bool =
    λ third second first.
    replicate 10 true
    ++ (gcr 0x08 ++ (third ++ (gcr sector ++ (number ++ (second ++ (first ++ [])))))) in
    ap (λ (some : List Bool). header some (gcr id2) (gcr id1)) same
    ∙ ap (λ (some : List Bool). header (gcr low_check) some (gcr id1)) (gcr-mod id2)
    ∙ ap (λ (some : List Bool). header (gcr low_check) (gcr (id2 % 256)) some) (gcr-mod id1)

-- the sync of the header; before the data none stands, and then theirs
syncs : (drive : CommodoreDrive) (id1 id2 : ℕ) (track : TrackId) (sector : ℕ) (bytes : List ℕ)
    (rest : List Bool)
    → let gap = between ++ (gcr_bytes (data_bytes bytes) ++ rest) in
    (take 11 (header_cells drive id1 id2 track sector ++ gap) ≡ word_cells 11 0x7FE)
    × (free_of (word_cells 11 0x7FE) 122 gap ≡ true)
    × (take 11 (drop 122 gap) ≡ word_cells 11 0x7FE)
unfolding free_of begins header_cells between gcr code_of word_cells
syncs drive id1 id2 track sector bytes rest = (refl, refl, refl)

names-sector : (drive : CommodoreDrive) (id1 id2 : ℕ) (track : TrackId) (sector : ℕ)
    (rest : List Bool)
    → IsCommodoreTrack drive track → sector < 256 → id1 < 256 → id2 < 256
    → NamesSector drive track (header_cells drive id1 id2 track sector ++ rest) sector
unfolding header_cells AreBytes
names-sector drive id1 id2 track sector rest known low first second =
    let bytes = header_bytes drive id1 id2 track sector in
    let number : track_number drive track < 256 = number_fits drive track known in
    let address : AreBytes (address_of drive id1 id2 track sector) =
    (low, (number, (second, (first, tt)))) in
    let fit : AreBytes bytes =
    (lit< tt, (xor-lt (address_of drive id1 id2 track sector) 0 (lit< tt) address, address)) in
    record {
      id1 = id1;
      id2 = id2;
      bytes = subst (λ (cells : List Bool). BytesAt cells 10 bytes)
          (sym (append_assoc (replicate 10 true) (gcr_bytes bytes) rest))
          (BytesAt-past (replicate 10 true) (gcr_bytes bytes ++ rest) 10 0 bytes refl
          (BytesAt-front bytes rest fit));
    }

-- the bytes of a data block, one part after another
holds : (cells : List Bool) (bytes : List ℕ) → length bytes ≡ 256
    → BytesAt cells 202 (data_bytes bytes) → Hold cells 192 bytes
holds cells bytes size stand =
    let check = xor bytes in
    let all = length-append bytes (check ∷ []) in
    let last : get_or (bytes ++ check ∷ []) 256 0 ≡ check =
    ap (λ (n : ℕ). get_or (bytes ++ check ∷ []) n 0) (sym size)
    ∙ get_or-append_seam bytes check [] 0 in
    record {
      opens = stand 0 (omega arith);
      size = size;
      content = λ k within.
          let e : 202 + 10 * suc k ≡ 212 + 10 * k = omega arith in
          subst (λ (place : ℕ). ByteAt cells place (get_or bytes k 0)) e
          (subst (ByteAt cells (202 + 10 * suc k)) (get_or-append bytes (check ∷ []) 0 k within)
          (stand (suc k) (omega (arith, all, within))));
      check = subst (ByteAt cells 2772) last (stand 257 (omega (arith, all, size)));
    }

-- the rows of a frame are read back
pub frame_stands : (disk : CommodoreGcr) (track : TrackId) (sector : ℕ) (bytes : List ℕ)
    (before : Bool) (rest : List Bool)
    → IsCommodoreTrack disk.drive track
    → IsSectorNumber 0 (sectors_of disk.drive track) sector → AreBytes bytes → length bytes ≡ 256
    → FrameStands 0x7FE 11 70 192 (NamesSector disk.drive track) IsSync Hold
    (rows_cells false (row_cells disk track) before sector bytes rows.frame ++ rest) sector
    bytes
frame_stands disk track sector bytes before rest known number fit size =
    let low : sector < 256 = omega (arith, number.most, (counts disk.drive track).1) in
    let id1 = disk.id1 % 256 in
    let id2 = disk.id2 % 256 in
    let header = header_cells disk.drive id1 id2 track sector in
    let stored = gcr_bytes (data_bytes bytes) ++ rest in
    let gap = between ++ stored in
    let header_size = length-header_cells disk.drive id1 id2 track sector in
    let there = syncs disk.drive id1 id2 track sector bytes rest in
    let cells_are = frame-cells disk track sector bytes before rest
    ∙ ap (λ (cells : List Bool). cells ++ gap)
    (header_cells-mod disk.drive disk.id1 disk.id2 track sector known low) in
    subst
    (λ (cells : List Bool).
    FrameStands 0x7FE 11 70 192 (NamesSector disk.drive track) IsSync Hold cells sector bytes)
    (sym cells_are)
    (record {
      begins = there.0;
      named = names-sector disk.drive id1 id2 track sector gap known low (mod-lt disk.id1 (lit< tt))
          (mod-lt disk.id2 (lit< tt));
      opens = ap (take 11) (drop-past header gap 70 122 header_size) ∙ there.2;
      first = λ place above below.
          gap-free 0x7FE 11 122 header gap 70 place (lit≤ tt) there.1 header_size above below;
      held = holds (header ++ gap) bytes size
          (BytesAt-past header gap 70 132 (data_bytes bytes) header_size
          (BytesAt-past between stored 132 0 (data_bytes bytes) length-between
          (BytesAt-front (data_bytes bytes) rest (AreBytes-data bytes fit))));
    })
