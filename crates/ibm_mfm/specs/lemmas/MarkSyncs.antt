-- Where three marks and the first data bits after them stand in a ring:
-- only where a sector's marks do.
use Rattle.std.specs.Prelude.{◌≡◌, ℕ, zero, suc, ◌+◌, ◌*◌, ◌^◌, ◌≤◌, ◌⊎◌, Bool, true, false, List}
use Rattle.std.specs.Prelude.{[], ◌∷◌, ◌++◌, length, take, drop, replicate, Option, Some, None}
use Rattle.std.specs.Prelude.{refl}
use Rattle.std.proofs.Common.{ap, sym, subst, ◌∙◌, arith, inl, inr, append_assoc}
use Rattle.std.proofs.lemmas.Bool.{cases_lt}
use Rattle.std.proofs.lemmas.List.{drop-drop, length-replicate, length-take, take-append-drop}
use Rattle.std.proofs.lemmas.List.{take-take}
use Rattle.std.proofs.Math.Pow.{pow_mono}
use Rattle.flux_base.specs.declared.track.TrackId.{TrackId}
use Rattle.cell_bits.specs.Bytes.{data_byte, data_cells, mfm, mfm_cells}
use Rattle.cell_bits.specs.Word.{digit, number_of, word_cells}
use Rattle.cell_bits.specs.lemmas.WordLaws.{number_of-lt, word_cells-number_of}
use Rattle.track_rings.specs.lemmas.Owning.{IsSyncPlace}
use Rattle.track_rings.specs.Rings.{AreSectors, bytes_of}
use Rattle.track_rings.specs.Rows.{place_of, ring_of, sector_rows, total}
use Rattle.track_rings.specs.lemmas.Syncs.{Only, QuietPart, SyncPart, Syncs, all_known, clashes}
use Rattle.track_rings.specs.lemmas.Syncs.{clashes-not, clashes_at_all, fits, fits-append}
use Rattle.track_rings.specs.lemmas.Syncs.{fits-drop, fits-front, fits-known, fits-word}
use Rattle.track_rings.specs.lemmas.Syncs.{nowhere-from, nowhere-known, part-then}
use Rattle.ibm_fields.specs.Fields.{DATA_BYTE, ID_BYTE, high_first}
use Rattle.mfm_coding.specs.declared.symbol.Symbol.{Symbol}
use Rattle.mfm_coding.specs.declared.symbol.Symbol.TheVariants.{Data, SyncMark, IndexMark}
use Rattle.mfm_coding.specs.Coding.{bytes_as_data, coded, symbol_cells}
use Rattle.mfm_coding.specs.lemmas.CodingLaws.{last_bit}
use Rattle.mfm_coding.specs.lemmas.MarkPlaces.{FollowsBit, QuietSymbols, SyncSymbols, bytes_quiet}
use Rattle.mfm_coding.specs.lemmas.MarkPlaces.{mark_front, no-symbols, quiet-run, quiet-symbols}
use Rattle.mfm_coding.specs.lemmas.MarkPlaces.{symbols-append, symbols-joined, symbols-skip}
use Rattle.mfm_coding.specs.lemmas.MarkPlaces.{symbols-then}
use Rattle.mfm_coding.specs.lemmas.SymbolRows.{rows_symbols, syncs-in_symbols, track_symbols}
use Rattle.ibm_disks.specs.Numbers.{FillMfmTrack, code_of, mfm_zeros, size_of}
use Rattle.ibm_disks.specs.declared.track_numbers.LeadIn.{LeadIn}
use Rattle.ibm_disks.specs.declared.track_numbers.LeadIn.TheVariants.{Indexed, Bare}
use Rattle.ibm_disks.specs.declared.track_numbers.TrackNumbers.{TrackNumbers}
use Rattle.ibm_mfm.specs.lemmas.DiskLaws.{last_zero}
use Rattle.ibm_mfm.specs.lemmas.FrameLaws.{three_marks}
use Rattle.ibm_mfm.specs.Layout.{field, lead_in_rows, row_cells, row_size, row_symbols, rows_of}
use Rattle.ibm_mfm.specs.Layout.{track_gap_of}
use Rattle.ibm_mfm.specs.lemmas.RowLaws.{row_sized}
use Rattle.ibm_mfm.specs.Sectors.{address_of, check_of}
use Rattle.ibm_mfm.specs.Syncs.{SyncAt, THREE_MARKS}

-- bits with any clock cells
unfoldable pub spread : List Bool → List (Option Bool)
spread [] = []
spread (bit ∷ bits) = None ∷ Some bit ∷ spread bits

-- three marks and these bits, after the first cells of the first mark, which are a zero and then
-- eleven cells that data can't hold
unfoldable pub sync_after : List Bool → List (Option Bool)
sync_after bits = all_known (word_cells 36 THREE_MARKS) ++ spread bits

abbrev pub marks_sync : List Bool → List (Option Bool)
marks_sync bits = mark_front ++ sync_after bits

data-fits : (count : ℕ) (cells : List Bool)
    → fits (spread (data_cells (take count cells))) cells ≡ true
unfolding spread fits data_cells
data-fits zero cells = refl
data-fits (suc count) [] = refl
data-fits (suc zero) (clock ∷ cells) = refl
data-fits (suc (suc count)) (clock ∷ []) = refl
data-fits (suc (suc count)) (clock ∷ true ∷ cells) = data-fits count cells
data-fits (suc (suc count)) (clock ∷ false ∷ cells) = data-fits count cells

length-data : (pairs : ℕ) (cells : List Bool) → length cells ≤ 2 * pairs
    → length (data_cells cells) ≤ pairs
unfolding data_cells
length-data pairs [] size = omega arith
length-data pairs (clock ∷ []) size = omega arith
length-data zero (clock ∷ bit ∷ cells) size = absurd (omega arith)
length-data (suc pairs) (clock ∷ bit ∷ cells) size =
    let e = length-data pairs cells (omega arith) in
    omega (arith, e)

-- a byte of eight bits has them all
byte-fits : (byte : ℕ) (cells : List Bool) (place : ℕ) → 128 ≤ byte → data_byte cells place ≡ byte
    → fits (spread (word_cells 8 byte)) (drop place cells) ≡ true
unfolding data_byte word_cells
byte-fits byte cells place high is =
    let bits = data_cells (take 16 (drop place cells)) in
    let few : length bits ≤ 8 =
    length-data 8 (take 16 (drop place cells))
    (omega (arith, length-take 16 (drop place cells))) in
    let all : length bits ≡ 8 = elim (cases_lt (length bits) 8) [
      | inl less ↦
          absurd
          (let short : length bits ≤ 7 = omega arith in
          let low : 2 ^ length bits ≤ 2 ^ 7 = pow_mono short in
          omega (arith, low, number_of-lt bits, is, high))
      | inr enough ↦ omega arith
    ] in
    let same : bits ≡ word_cells 8 byte =
    sym (word_cells-number_of bits) ∙ ap (λ (n : ℕ). word_cells n (number_of bits)) all
    ∙ ap (word_cells 8) is in
    subst (λ (some : List Bool). fits (spread some) (drop place cells) ≡ true) same
    (data-fits 16 (drop place cells))

-- three marks and a byte that begins with these bits have it, after a zero
pub marks-lead : (bits : List Bool) (more : List (Option Bool)) (byte : ℕ) (cells : List Bool)
    (place : ℕ)
    → spread (word_cells 8 byte) ≡ spread bits ++ more
    → 128 ≤ byte → SyncAt cells place → data_byte cells (place + 48) ≡ byte
    → fits (Some false ∷ marks_sync bits) (drop place cells) ≡ true
unfolding sync_after word_cells
marks-lead bits more byte cells place begins high marks first =
    let from = drop place cells in
    let front = take 48 from in
    let known : fits (all_known (word_cells 48 THREE_MARKS)) front ≡ true =
    fits-word (word_cells 48 THREE_MARKS) front 48 refl
    (take-take 48 48 from (omega arith) ∙ marks) in
    let size : length (all_known (word_cells 48 THREE_MARKS)) ≡ length front =
    sym (ap length marks) in
    let whole = subst
    (λ (known_bits : List (Option Bool)). fits known_bits (drop (place + 48) cells) ≡ true)
    begins (byte-fits byte cells (place + 48) high first) in
    let there = subst (λ (rest : List Bool). fits (spread bits) rest ≡ true)
    (sym (drop-drop 48 place cells))
    (fits-front (spread bits) more (drop (place + 48) cells) whole) in
    subst
    (λ (all : List Bool).
    fits (all_known (word_cells 48 THREE_MARKS) ++ spread bits) all ≡ true)
    (take-append-drop 48 from)
    (fits-append (all_known (word_cells 48 THREE_MARKS)) (spread bits) front (drop 48 from) size
    known there)

-- a byte of these cells follows
Opens : Bool → ℕ → List Bool → Type 0
Opens before byte rest = fits (all_known (mfm before byte)) rest ≡ true

three : List Bool
three = word_cells 48 THREE_MARKS

marks_are : (before : Bool) → coded before three_marks ≡ three
unfolding coded symbol_cells three word_cells
marks_are before = refl

marks_follow : (before : Bool) (rest : List Bool) → FollowsBit before (three ++ rest)
unfolding three symbol_cells word_cells
marks_follow before rest = (SyncMark, word_cells 32 0x44894489 ++ rest, refl)

-- what is known of three marks before a byte
unfoldable pub marks_before : ℕ → List (Option Bool)
marks_before byte = all_known (word_cells 48 THREE_MARKS) ++ all_known (mfm true byte)

before_byte : (rest : List Bool) (byte : ℕ) → Opens true byte rest
    → fits (marks_before byte) (three ++ rest) ≡ true
unfolding Opens three marks_before word_cells fits
before_byte rest byte opens =
    fits-append (all_known three) (all_known (mfm true byte)) three rest refl refl opens

index_marks : List Symbol
index_marks = IndexMark ∷ IndexMark ∷ IndexMark ∷ []

-- a ring
abbrev pub ring : TrackNumbers → TrackId → List ℕ → List Bool
ring disk track bytes = ring_of true (row_cells disk track) disk.first_sector disk.sectors
    (size_of disk.size) bytes (rows_of disk)

module _ (bits : List Bool) where
  bytes_open : (before : Bool) (byte : ℕ) (bytes : List ℕ)
      → QuietPart (Syncs (marks_sync bits))
      (FollowsBit (last_bit before (bytes_as_data (byte ∷ bytes)))) (Opens before byte)
      (coded before (bytes_as_data (byte ∷ bytes)))
  unfolding Opens coded symbol_cells
  bytes_open before byte bytes rest follows = (
    (bytes_quiet (sync_after bits) before (byte ∷ bytes) rest follows).0,
    subst (λ (cells : List Bool). fits (all_known (mfm before byte)) cells ≡ true)
        (sym (append_assoc (mfm before byte) (coded (digit byte 0) (bytes_as_data bytes)) rest))
        (fits-known (mfm before byte) (coded (digit byte 0) (bytes_as_data bytes) ++ rest)),
  )

  -- marks, and then bytes, of which the first is known
  marks-bytes : (Here : ℕ → Type 0) (marks : List Symbol) (byte : ℕ) (bytes : List ℕ)
      → ((before : Bool)
      → SyncPart (Syncs (marks_sync bits)) Here (Opens (last_bit before marks) byte)
      (FollowsBit before) (coded before marks))
      → SyncSymbols (Syncs (marks_sync bits)) Here (marks ++ bytes_as_data (byte ∷ bytes))
  marks-bytes Here marks byte bytes each before =
      let some = bytes_as_data (byte ∷ bytes) in
      let bit = last_bit before marks in
      symbols-joined (Syncs (marks_sync bits)) Here marks some before
      (part-then (Syncs (marks_sync bits)) Here (FollowsBit (last_bit bit some)) (Opens bit byte)
      (FollowsBit before) (coded before marks) (coded bit some)
      (each before) (bytes_open bit byte bytes))

  -- three marks A1 before a byte: the sync begins at most at the second cell, and not there
  -- where it clashes with that byte
  in_three : (Here : ℕ → Type 0) (byte : ℕ) (rest : List Bool)
      → clashes_at_all (marks_sync bits) 46 (drop 2 (marks_before byte)) ≡ true
      → (Here 1) ⊎ (clashes (marks_sync bits) (drop 1 (marks_before byte)) ≡ true)
      → Opens true byte rest
      → Only (Syncs (marks_sync bits)) Here three rest
  unfolding three sync_after marks_before word_cells clashes_at_all clashes
  in_three Here byte rest others second opens place within test =
      let sync = marks_sync bits in
      let fit = before_byte rest byte opens in
      elim (cases_lt place 1) [
        | inl first ↦
            absurd
            (nowhere-from sync (marks_before byte) (three ++ rest) 0 1 place refl fit (omega arith)
            (omega arith) test)
        | inr a ↦ elim (cases_lt place 2) [
          | inl own ↦
              let e : 1 ≡ place = omega arith in
              elim second [
                | inl here ↦ subst Here e here
                | inr clash ↦
                    absurd
                    (clashes-not sync (drop 1 (marks_before byte)) (drop 1 (three ++ rest)) clash
                    (subst (λ (n : ℕ). Syncs sync (drop n (three ++ rest))) (sym e) test)
                    (fits-drop 1 (marks_before byte) (three ++ rest) fit))
              ]
          | inr b ↦
              absurd
              (nowhere-from sync (marks_before byte) (three ++ rest) 2 46 place others fit b
              (omega (arith, within)) test)
        ]
      ]

  marks_part : (Here : ℕ → Type 0) (byte : ℕ)
      → clashes_at_all (marks_sync bits) 46 (drop 2 (marks_before byte)) ≡ true
      → (Here 1) ⊎ (clashes (marks_sync bits) (drop 1 (marks_before byte)) ≡ true) → (before : Bool)
      → SyncPart (Syncs (marks_sync bits)) Here (Opens true byte) (FollowsBit before)
      (coded before three_marks)
  marks_part Here byte others second before =
      subst (SyncPart (Syncs (marks_sync bits)) Here (Opens true byte) (FollowsBit before))
      (sym (marks_are before))
      (λ rest opens. (in_three Here byte rest others second opens, marks_follow before rest))

  -- in each of a sector's three marks
  in_header_marks : clashes_at_all (marks_sync bits) 46 (drop 2 (marks_before ID_BYTE)) ≡ true
  unfolding sync_after marks_before word_cells mfm mfm_cells clashes_at_all clashes
  in_header_marks = refl

  in_data_marks : clashes_at_all (marks_sync bits) 46 (drop 2 (marks_before DATA_BYTE)) ≡ true
  unfolding sync_after marks_before word_cells mfm mfm_cells clashes_at_all clashes
  in_data_marks = refl

  -- nowhere in three marks C2 before FC
  index_quiet : (before : Bool)
      → QuietPart (Syncs (marks_sync bits)) (Opens false 0xFC) (FollowsBit before)
      (coded before index_marks)
  unfolding index_marks Opens sync_after coded symbol_cells word_cells mfm mfm_cells clashes_at_all clashes fits
  index_quiet before rest opens =
      let cells = word_cells 48 0x522452245224 in (
        nowhere-known (marks_sync bits) (all_known cells ++ all_known (mfm false 0xFC)) cells rest
            48 refl refl
            (fits-append (all_known cells) (all_known (mfm false 0xFC)) cells rest refl refl opens),
        (IndexMark, word_cells 32 0x52245224 ++ rest, refl),
      )

  -- a disk's track
  module _ (disk : TrackNumbers) (track : TrackId) where
    header_zeros : List Symbol
    header_zeros = replicate (mfm_zeros disk.lead_in) (Data 0x00)

    -- A sector, in whose marks the sync begins so many cells after its frame does: in those of the
    -- header or in those of the data.
    sector_part : (lead s : ℕ) (bytes : List ℕ)
        → (1 ≡ lead) ⊎ (clashes (marks_sync bits) (drop 1 (marks_before ID_BYTE)) ≡ true)
        → (705 ≡ lead) ⊎ (clashes (marks_sync bits) (drop 1 (marks_before DATA_BYTE)) ≡ true)
        → SyncSymbols (Syncs (marks_sync bits)) (λ place. place ≡ 16 * length header_zeros + lead)
        (rows_symbols (row_symbols disk track) s bytes (sector_rows (rows_of disk)))
    unfolding header_zeros
    sector_part lead s bytes in_header in_data =
        let Test : List Bool → Type 0 = Syncs (marks_sync bits) in
        let after = sync_after bits in
        let first_zeros = header_zeros in
        let before = 16 * length first_zeros in
        let zeros = replicate 12 (Data 0x00) in
        let gap = replicate 22 (Data 0x4E) in
        let last = replicate disk.sector_gap (Data 0x4E) ++ [] in
        let name = field ID_BYTE (address_of (code_of disk.size) track s) in
        let held = field DATA_BYTE bytes in
        let Third : ℕ → Type 0 = λ place. before + (160 + (352 + (192 + place))) ≡ before + lead in
        let Header : ℕ → Type 0 = λ place. before + place ≡ before + lead in
        let quiet_last = quiet-symbols Test (replicate disk.sector_gap (Data 0x4E)) []
        (quiet-run after disk.sector_gap 0x4E) (no-symbols Test) in
        let third_second : (Third 1)
        ⊎ (clashes (marks_sync bits) (drop 1 (marks_before DATA_BYTE)) ≡ true) =
        elim in_data [ inl own ↦ inl (omega (arith, own)) | inr clash ↦ inr clash ] in
        let header_second : (Header 1)
        ⊎ (clashes (marks_sync bits) (drop 1 (marks_before ID_BYTE)) ≡ true) =
        elim in_header [ inl own ↦ inl (omega (arith, own)) | inr clash ↦ inr clash ] in
        let third = subst (SyncSymbols Test Third) (append_assoc three_marks held last)
        (symbols-then Test Third (three_marks ++ held) last
        (marks-bytes Third three_marks DATA_BYTE (bytes ++ high_first (check_of DATA_BYTE bytes))
        (marks_part Third DATA_BYTE in_data_marks third_second)) quiet_last) in
        let data_symbols = three_marks ++ (held ++ last) in
        let second = symbols-skip Test (λ place. before + (160 + place) ≡ before + lead) gap
        (zeros ++ data_symbols) (quiet-run after 22 0x4E)
        (symbols-skip Test (λ place. before + (160 + (352 + place)) ≡ before + lead) zeros
        data_symbols (quiet-run after 12 0x00) third) in
        let first = subst (SyncSymbols Test Header)
        (append_assoc three_marks name (gap ++ (zeros ++ data_symbols)))
        (symbols-append Test Header (three_marks ++ name) (gap ++ (zeros ++ data_symbols))
        (marks-bytes Header three_marks ID_BYTE
        (address_of (code_of disk.size) track s
        ++ high_first (check_of ID_BYTE (address_of (code_of disk.size) track s)))
        (marks_part Header ID_BYTE in_header_marks header_second))
        second) in
        symbols-skip Test (λ place. place ≡ before + lead) first_zeros
        (three_marks ++ (name ++ (gap ++ (zeros ++ data_symbols))))
        (quiet-run after (mfm_zeros disk.lead_in) 0x00) first

    lead_in_quiet : (kind : LeadIn) (s : ℕ)
        → QuietSymbols (Syncs (marks_sync bits))
        (rows_symbols (row_symbols disk track) s [] (lead_in_rows kind))
    unfolding index_marks
    lead_in_quiet Bare s =
        quiet-symbols (Syncs (marks_sync bits)) (replicate 10 (Data 0x4E)) []
        (quiet-run (sync_after bits) 10 0x4E) (no-symbols (Syncs (marks_sync bits)))
    lead_in_quiet Indexed s =
        let Test : List Bool → Type 0 = Syncs (marks_sync bits) in
        let after = sync_after bits in
        let last = replicate 50 (Data 0x4E) ++ [] in
        let one = replicate 1 (Data 0xFC) in
        let third = index_marks ++ (one ++ last) in
        quiet-symbols Test (replicate 80 (Data 0x4E)) (replicate 12 (Data 0x00) ++ third)
        (quiet-run after 80 0x4E)
        (quiet-symbols Test (replicate 12 (Data 0x00)) third (quiet-run after 12 0x00)
        (subst (QuietSymbols Test) (append_assoc index_marks one last)
        (quiet-symbols Test (index_marks ++ one) last
        (marks-bytes (λ place. ⊥) index_marks 0xFC [] index_quiet)
        (quiet-symbols Test (replicate 50 (Data 0x4E)) [] (quiet-run after 50 0x4E)
        (no-symbols Test)))))

    lead_out_quiet : (s : ℕ)
        → QuietSymbols (Syncs (marks_sync bits))
        (rows_symbols (row_symbols disk track) s [] (rows_of disk).lead_out)
    lead_out_quiet s =
        quiet-symbols (Syncs (marks_sync bits)) (replicate (track_gap_of disk) (Data 0x4E)) []
        (quiet-run (sync_after bits) (track_gap_of disk) 0x4E)
        (no-symbols (Syncs (marks_sync bits)))

    -- a ring begins with a byte
    lead_in_follows : (kind : LeadIn) (s : ℕ) (rest : List Symbol)
        → FollowsBit false
        (coded false (rows_symbols (row_symbols disk track) s [] (lead_in_rows kind) ++ rest))
    unfolding coded
    lead_in_follows Indexed s rest = (Data 0x4E, _, refl)
    lead_in_follows Bare s rest = (Data 0x4E, _, refl)

    ring_follows : (bytes : List ℕ)
        → FollowsBit false
        (coded false
        (track_symbols (row_symbols disk track) disk.first_sector disk.sectors
        (size_of disk.size) (rows_of disk) bytes))
    ring_follows bytes = lead_in_follows disk.lead_in disk.first_sector _

  -- So in the ring it begins so many cells after the sectors' frames do: at the second cell of the
  -- header's marks or of the data's, where it clashes with the byte after the others.
  pub only_in_marks : (disk : TrackNumbers) → FillMfmTrack disk → (track : TrackId) (lead : ℕ)
      → (1 ≡ lead) ⊎ (clashes (marks_sync bits) (drop 1 (marks_before ID_BYTE)) ≡ true)
      → (705 ≡ lead) ⊎ (clashes (marks_sync bits) (drop 1 (marks_before DATA_BYTE)) ≡ true)
      → (bytes : List ℕ)
      → AreSectors disk.sectors (size_of disk.size) bytes
      → Only (Syncs (marks_sync bits))
      (IsSyncPlace
      (place_of (row_size disk) disk.first_sector (size_of disk.size) (rows_of disk))
      disk.first_sector disk.sectors lead) (ring disk track bytes) (ring disk track bytes)
  unfolding total header_zeros
  only_in_marks disk fills track lead in_header in_data bytes given =
      let zeros : 16 * length (replicate (mfm_zeros disk.lead_in) (Data 0x00))
      ≡ 16 * mfm_zeros disk.lead_in + 0 =
      omega (arith, length-replicate (mfm_zeros disk.lead_in) (Data 0x00)) in
      syncs-in_symbols (row_symbols disk track) disk.first_sector disk.sectors (size_of disk.size)
      (rows_of disk) bytes (row_size disk)
      (λ s content row. row_sized disk track s content row) given.whole (Syncs (marks_sync bits))
      lead
      (λ s number.
      subst (λ (n : ℕ). SyncSymbols (Syncs (marks_sync bits)) (λ place. place ≡ n + lead)
      (rows_symbols (row_symbols disk track) s
      (bytes_of disk.first_sector (size_of disk.size) bytes s) (sector_rows (rows_of disk))))
      zeros
      (sector_part disk track lead s (bytes_of disk.first_sector (size_of disk.size) bytes s)
      in_header in_data))
      (lead_in_quiet disk track disk.lead_in disk.first_sector)
      (lead_out_quiet disk track disk.first_sector)
      (last_zero disk fills track) (ring_follows disk track bytes)
