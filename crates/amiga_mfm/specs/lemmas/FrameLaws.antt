-- A sector's frame as it is written, whatever comes after it: its header names the
-- sector, and its data hold the bytes.
use Rattle.std.specs.Prelude.{◌≡◌, ℕ, zero, suc, ◌-◌, ◌*◌, ◌/◌, ◌^◌, ◌<◌, Bool, true, List, [], ◌∷◌}
use Rattle.std.specs.Prelude.{◌++◌, length, take, map, flat_map, get_or, refl}
use Rattle.std.proofs.Common.{ap, sym, subst, ◌∙◌, arith, lit<}
use Rattle.std.proofs.lemmas.List.{length-map}
use Rattle.std.proofs.lemmas.Nat.{be_bytes_4}
use Rattle.std.specs.Simd.Lanes.{zip2}
use Rattle.std.specs.Int.{from_be_bytes, to_be_bytes, w32}
use Rattle.flux_base.specs.declared.track.TrackId.{TrackId}
use Rattle.cell_bits.specs.Word.{Stands, word_cells}
use Rattle.check_values.specs.Sums.{xor}
use Rattle.track_rings.specs.Rings.{IsSectorNumber, AreBytes}
use Rattle.track_rings.specs.Rows.{rows_cells}
use Rattle.frame_law.specs.Frames.{FrameStands}
use Rattle.mfm_coding.specs.declared.symbol.Symbol.{Symbol}
use Rattle.mfm_coding.specs.declared.symbol.Symbol.TheVariants.{SyncMark}
use Rattle.mfm_coding.specs.Coding.{coded, symbol_cells}
use Rattle.mfm_coding.specs.lemmas.SymbolRows.{rows-coded}
use Rattle.amiga_mfm.specs.declared.half.Half.TheVariants.{Odd, Even}
use Rattle.amiga_mfm.specs.declared.recording.AmigaMfm.{AmigaMfm}
use Rattle.amiga_mfm.specs.Disks.{IsAmigaTrack, disk_of}
use Rattle.amiga_mfm.specs.lemmas.DiskLaws.{sound}
use Rattle.amiga_mfm.specs.Layout.{check_of_data, check_of_header, content_halves, halves_symbols}
use Rattle.amiga_mfm.specs.Layout.{header_halves, info_of, label, row_cells, row_symbols, rows}
use Rattle.amiga_mfm.specs.lemmas.LongLaws.{halves-after, long-joined, long-reads, longs-read}
use Rattle.amiga_mfm.specs.Longs.{half_bytes, half_of, halves, long_of_halves, longs_of, raw_longs}
use Rattle.amiga_mfm.specs.Longs.{without_clocks}
use Rattle.amiga_mfm.specs.lemmas.Masks.{check-same, without_clocks-lt}
use Rattle.amiga_mfm.specs.lemmas.RowLaws.{length-halves, length-longs_of}
use Rattle.amiga_mfm.specs.Sectors.{Hold, IsDataPlace, NamesSector, track_number}

abbrev pub marks : List Symbol
marks = SyncMark ∷ SyncMark ∷ []

-- a long of four bytes
four-bytes : (a b c d : ℕ) → a < 256 → b < 256 → c < 256 → d < 256
    → let long = from_be_bytes w32 (a ∷ b ∷ c ∷ d ∷ []) in
    (long < 2 ^ 32) × (to_be_bytes w32 long ≡ a ∷ b ∷ c ∷ d ∷ [])
four-bytes a b c d p q r s = (omega arith, be_bytes_4 (a ∷ b ∷ c ∷ d ∷ []) _ refl fits refl)
  where
    fits : (i : ℕ) → get_or (a ∷ b ∷ c ∷ d ∷ []) i 0 < 256
    fits zero = p
    fits (suc zero) = q
    fits (suc (suc zero)) = r
    fits (suc (suc (suc zero))) = s
    fits (suc (suc (suc (suc i)))) = lit< tt

-- bytes as longs, their halves, and back
bytes-back : (bytes : List ℕ) (count : ℕ) → length bytes ≡ 4 * count → AreBytes bytes
    → flat_map (to_be_bytes w32)
    (zip2 long_of_halves (map (half_of Odd) (longs_of bytes))
    (map (half_of Even) (longs_of bytes)))
    ≡ bytes
unfolding AreBytes longs_of
bytes-back [] count size fit = refl
bytes-back (a ∷ []) count size fit = absurd (omega arith)
bytes-back (a ∷ b ∷ []) count size fit = absurd (omega arith)
bytes-back (a ∷ b ∷ c ∷ []) count size fit = absurd (omega arith)
bytes-back (a ∷ b ∷ c ∷ d ∷ bytes) zero size fit = absurd (omega arith)
bytes-back (a ∷ b ∷ c ∷ d ∷ bytes) (suc count) size (first, (second, (third, (fourth, rest)))) =
    let long = from_be_bytes w32 (a ∷ b ∷ c ∷ d ∷ []) in
    let is = four-bytes a b c d first second third fourth in
    let here = ap (to_be_bytes w32) (long-joined long is.0) ∙ is.1 in
    let more = bytes-back bytes count (omega arith) rest in
    λ i. here i ++ more i

-- a frame: marks, header and data
abbrev pub after_marks : ℕ → List ℕ → List Symbol
after_marks info longs =
    halves_symbols (header_halves info) ++ (halves_symbols (content_halves longs) ++ [])

abbrev frame_cells : Bool → ℕ → List ℕ → List Bool → List Bool
frame_cells before info longs rest = coded before (marks ++ after_marks info longs) ++ rest

begins : (before : Bool) (info : ℕ) (longs : List ℕ) (rest : List Bool)
    → Stands (frame_cells before info longs rest) 0x44894489 32 0
unfolding coded symbol_cells word_cells
begins before info longs rest = refl

names : (recording : AmigaMfm) (track : TrackId) (sector : ℕ) (before : Bool) (longs : List ℕ)
    (rest : List Bool)
    → IsAmigaTrack track
    → IsSectorNumber 0 (disk_of recording).sectors sector
    → NamesSector track (frame_cells before (info_of (disk_of recording) track sector) longs rest)
    sector
unfolding half_bytes
names recording track sector before longs rest known number =
    let info = info_of (disk_of recording) track sector in
    let few = (sound recording).few in
    let check = check_of_header info in
    let cells = frame_cells before info longs rest in
    let named = halves (info ∷ []) ++ halves label in
    let content = halves_symbols (content_halves longs) ++ [] in
    let last = halves_symbols (halves (check ∷ [])) ++ content in
    let is = four-bytes 0xFF (track_number track) sector ((disk_of recording).sectors - sector)
    (lit< tt) (omega (arith, known.cylinder, known.head))
    (omega (arith, number.most, few)) (omega (arith, few)) in
    record {
      info = ap (λ (long : ℕ). take 3 (to_be_bytes w32 long))
          (long-reads cells 32 info is.0
          (halves-after before marks (halves (info ∷ []))
          (halves_symbols (halves label) ++ last) rest))
          ∙ ap (take 3) is.1;
      check = long-reads cells 352 check (without_clocks-lt (xor named))
          (halves-after before (marks ++ halves_symbols named) (halves (check ∷ [])) content rest)
          ∙ sym
          (check-same (raw_longs cells 32 10) named
          (halves-after before marks named last rest));
    }

holds : (before : Bool) (info : ℕ) (bytes : List ℕ) (rest : List Bool) → AreBytes bytes
    → length bytes ≡ 512
    → Hold (frame_cells before info (longs_of bytes) rest) 480 bytes
unfolding half_bytes
holds before info bytes rest fit whole =
    let longs = longs_of bytes in
    let cells = frame_cells before info longs rest in
    let check = check_of_data longs in
    let header = marks ++ halves_symbols (header_halves info) in
    let size : length longs ≡ 128 = length-longs_of bytes ∙ ap (λ (n : ℕ). n / 4) whole in
    let all : map without_clocks (raw_longs cells 480 256) ≡ map without_clocks (halves longs) =
    ap (λ (n : ℕ). map without_clocks (raw_longs cells 480 n))
    (sym (length-halves longs ∙ ap (λ (n : ℕ). 2 * n) size))
    ∙ halves-after before (header ++ halves_symbols (halves (check ∷ []))) (halves longs) [] rest in
    record {
      content = ap (flat_map (to_be_bytes w32))
          (longs-read cells 480 128 (map (half_of Odd) longs) (map (half_of Even) longs)
          (length-map longs (half_of Odd) ∙ size) all)
          ∙ bytes-back bytes 128 whole fit;
      check = long-reads cells 416 check (without_clocks-lt (xor (halves longs)))
          (halves-after before header (halves (check ∷ [])) (halves_symbols (halves longs) ++ [])
          rest)
          ∙ sym (check-same (raw_longs cells 480 256) (halves longs) all);
    }

-- the rows of a frame are read back
pub frame_stands : (recording : AmigaMfm) (track : TrackId) (sector : ℕ) (bytes : List ℕ)
    (before : Bool) (rest : List Bool)
    → IsAmigaTrack track
    → IsSectorNumber 0 (disk_of recording).sectors sector → AreBytes bytes → length bytes ≡ 512
    → FrameStands 0x44894489 32 480 480 (NamesSector track) IsDataPlace Hold
    (rows_cells true (row_cells (disk_of recording) track) before sector bytes rows.frame ++ rest)
    sector bytes
frame_stands recording track sector bytes before rest known number fit whole =
    let disk = disk_of recording in
    subst
    (λ (cells : List Bool).
    FrameStands 0x44894489 32 480 480 (NamesSector track) IsDataPlace Hold cells sector bytes)
    (sym
    (ap (λ (cells : List Bool). cells ++ rest)
    (rows-coded (row_symbols disk track) before sector bytes rows.frame)))
    (record {
      begins = begins before (info_of disk track sector) (longs_of bytes) rest;
      named = names recording track sector before (longs_of bytes) rest known number;
      opens = refl;
      first = λ place above below. absurd (omega arith);
      held = holds before (info_of disk track sector) bytes rest fit whole;
    })
