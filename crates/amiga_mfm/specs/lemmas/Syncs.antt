-- Where the two marks of a header stand in a ring: only where a sector's header begins.
use Rattle.std.specs.Prelude.{◌≡◌, ℕ, zero, suc, ◌+◌, ◌-◌, ◌<◌, ◌≤◌, Bool, true, false, List, []}
use Rattle.std.specs.Prelude.{◌∷◌, ◌++◌, length, drop, replicate, Option, refl}
use Rattle.std.specs.List.{flat_map}
use Rattle.std.proofs.Common.{ap, sym, subst, ◌∙◌, arith, inl, inr}
use Rattle.std.proofs.lemmas.Bool.{cases_lt}
use Rattle.std.proofs.lemmas.List.{drop-drop}
use Rattle.flux_base.specs.declared.track.TrackId.{TrackId}
use Rattle.cell_bits.specs.Word.{Stands, word_cells}
use Rattle.cell_bits.specs.lemmas.WordLaws.{length-word_cells}
use Rattle.track_rings.specs.lemmas.Owning.{Leads}
use Rattle.track_rings.specs.lemmas.Parts.{drop-past}
use Rattle.track_rings.specs.Rings.{AreSectors, bytes_of}
use Rattle.track_rings.specs.Rows.{place_of, total}
use Rattle.track_rings.specs.lemmas.Syncs.{SyncPart, Syncs, all_known, clashes, clashes_at_all}
use Rattle.track_rings.specs.lemmas.Syncs.{fits-drop, fits-known, fits-word, nowhere-from}
use Rattle.track_rings.specs.lemmas.Syncs.{part-then}
use Rattle.frame_law.specs.lemmas.OwnFrames.{HasOwnSyncs}
use Rattle.mfm_coding.specs.declared.symbol.Symbol.TheVariants.{Data, SyncMark}
use Rattle.mfm_coding.specs.Coding.{bytes_as_data, coded, symbol_cells}
use Rattle.mfm_coding.specs.lemmas.CodingLaws.{coded-append, last_bit, length-coded}
use Rattle.mfm_coding.specs.lemmas.MarkPlaces.{FollowsBit, QuietSymbols, SyncSymbols, mark_front}
use Rattle.mfm_coding.specs.lemmas.MarkPlaces.{no-symbols, quiet-bytes, quiet-run, quiet-symbols}
use Rattle.mfm_coding.specs.lemmas.MarkPlaces.{symbols-skip, symbols-then}
use Rattle.mfm_coding.specs.lemmas.SymbolRows.{syncs-in_symbols, track_symbols}
use Rattle.amiga_mfm.specs.declared.layout.Disk.{Disk}
use Rattle.amiga_mfm.specs.declared.recording.AmigaMfm.{AmigaMfm}
use Rattle.amiga_mfm.specs.Disks.{disk_of}
use Rattle.amiga_mfm.specs.lemmas.DiskLaws.{last_zero, sound}
use Rattle.amiga_mfm.specs.lemmas.FrameLaws.{after_marks, marks}
use Rattle.amiga_mfm.specs.Layout.{content_halves, header_halves, info_of, ring_of, row_size}
use Rattle.amiga_mfm.specs.Layout.{row_symbols, rows}
use Rattle.amiga_mfm.specs.Longs.{half_bytes, longs_of}
use Rattle.amiga_mfm.specs.lemmas.RowLaws.{symbols_sized}
use Rattle.amiga_mfm.specs.Sectors.{Names, SYNC}

-- the two marks after the first cells of the first, which are a zero and then
-- eleven cells that data can't hold
unfoldable pub sync_after : List (Option Bool)
sync_after = all_known (word_cells 20 SYNC)

abbrev pub sync_rest : List (Option Bool)
sync_rest = drop 1 mark_front ++ sync_after

abbrev pub TwoMarks : List Bool → Type 0
TwoMarks cells = Syncs (mark_front ++ sync_after) cells

length-sync_rest : length sync_rest ≡ 30
unfolding sync_after word_cells
length-sync_rest = refl

leads : (cells : List Bool) → Stands cells SYNC 32 0 → Leads 1 sync_rest cells
unfolding sync_after word_cells
leads cells stands = fits-word (word_cells 32 SYNC) cells 32 (length-word_cells 32 SYNC) stands

two : List Bool
two = word_cells 16 0x4489 ++ word_cells 16 0x4489

-- the first cells of the mark begin nowhere in the sixteen that follow
abbrev NoMarks : List Bool → Type 0
NoMarks cells = (place : ℕ) → place < 16
    → ¬ Syncs (mark_front ++ all_known (word_cells 4 0x4489)) (drop place cells)

not_at : (rest : List Bool) (place : ℕ) → NoMarks rest → place < 32
    → TwoMarks (drop place (two ++ rest)) → place ≡ 1
unfolding two sync_after word_cells clashes_at_all clashes
not_at rest place none low test =
    let cells = two ++ rest in
    let known = all_known two in
    let fit = fits-known two rest in
    let sync = mark_front ++ sync_after in
    elim (cases_lt place 1) [
      | inl first ↦
          absurd (nowhere-from sync known cells 0 1 place refl fit (omega arith) (omega arith) test)
      | inr a ↦ elim (cases_lt place 2) [
        | inl own ↦ omega arith
        | inr b ↦ elim (cases_lt place 17) [
          | inl inside ↦
              absurd (nowhere-from sync known cells 2 15 place refl fit b (omega arith) test)
          | inr c ↦ absurd (
              let e : place + 16 ≡ 32 + (place - 16) = omega arith in
              let half = fits-drop 16 sync (drop place cells) test in
              let there = drop-drop 16 place cells ∙ ap (λ (n : ℕ). drop n cells) e
              ∙ drop-past two rest 32 (place - 16) refl in
              none (place - 16) (omega arith)
              (subst
              (λ (some : List Bool). Syncs (mark_front ++ all_known (word_cells 4 0x4489)) some)
              there half))
        ]
      ]
    ]

marks_are : (before : Bool) (rest : List Bool)
    → (coded before marks ≡ two)
    × (two ++ rest ≡ symbol_cells before SyncMark ++ (word_cells 16 0x4489 ++ rest))
    × (length two ≡ 32)
unfolding coded symbol_cells two word_cells
marks_are before rest = (refl, refl, refl)

marks_first : (before : Bool)
    → SyncPart TwoMarks (λ place. place ≡ 1) NoMarks (FollowsBit before) (coded before marks)
marks_first before =
    subst (SyncPart TwoMarks (λ place. place ≡ 1) NoMarks (FollowsBit before))
    (sym (marks_are before []).0)
    (λ rest none.
    let are = marks_are before rest in (
      λ place within test. not_at rest place none (omega (arith, within, are.2)) test,
      (SyncMark, word_cells 16 0x4489 ++ rest, are.1),
    ))

-- the marks, and bytes after them
marked_part : (bytes : List ℕ) → 0 < length bytes
    → SyncSymbols TwoMarks (λ place. place ≡ 1) (marks ++ bytes_as_data bytes)
marked_part [] some before = absurd (omega arith)
marked_part (byte ∷ bytes) some before =
    let all = bytes_as_data (byte ∷ bytes) in
    let Needs = FollowsBit (last_bit true all) in
    subst (SyncPart TwoMarks (λ place. place ≡ 1) Needs (FollowsBit before))
    (sym (coded-append before marks all))
    (part-then TwoMarks (λ place. place ≡ 1) Needs NoMarks (FollowsBit before) (coded before marks)
    (coded true all) (marks_first before)
    (λ rest follows. (
      (quiet-bytes sync_after (byte ∷ bytes) true rest follows).0,
      λ place low.
          (quiet-bytes (all_known (word_cells 4 0x4489)) (byte ∷ bytes) true rest follows).0 place
          (omega (arith, low, length-coded true all)),
    )))

-- a frame, and a sector
frame_part : (info : ℕ) (longs : List ℕ)
    → SyncSymbols TwoMarks (λ place. place ≡ 1) (marks ++ after_marks info longs)
unfolding half_bytes
frame_part info longs =
    let bytes = flat_map half_bytes (header_halves info) in
    let last = flat_map half_bytes (content_halves longs) in
    symbols-then TwoMarks (λ place. place ≡ 1) (marks ++ bytes_as_data bytes)
    (bytes_as_data last ++ []) (marked_part bytes (omega arith))
    (quiet-symbols TwoMarks (bytes_as_data last) [] (quiet-bytes sync_after last)
    (no-symbols TwoMarks))

sector_part : (info : ℕ) (longs : List ℕ)
    → SyncSymbols TwoMarks (λ place. place ≡ 33)
    (replicate 2 (Data 0x00) ++ (marks ++ after_marks info longs))
sector_part info longs =
    symbols-skip TwoMarks (λ place. place ≡ 33) (replicate 2 (Data 0x00))
    (marks ++ after_marks info longs) (quiet-run sync_after 2 0x00)
    (λ before rest follows.
    let at = frame_part info longs before rest follows in
    (λ place within test. (let e = at.0 place within test in omega (arith, e)), at.1))

gap_quiet : (count : ℕ) → QuietSymbols TwoMarks (replicate count (Data 0x00) ++ [])
gap_quiet count = quiet-symbols TwoMarks (replicate count (Data 0x00)) []
    (quiet-run sync_after count 0x00) (no-symbols TwoMarks)

-- a track begins with a byte
track_begins : (disk : Disk) (track : TrackId) (bytes : List ℕ) (sectors : ℕ) → 1 ≤ sectors
    → FollowsBit false
    (coded false (track_symbols (row_symbols disk track) 0 sectors 512 rows bytes))
unfolding coded
track_begins disk track bytes zero some = absurd (omega arith)
track_begins disk track bytes (suc sectors) some = (Data 0x00, _, refl)

-- so in the ring they begin where headers do, after the zero with which the first begins
pub own_syncs : (recording : AmigaMfm) (track : TrackId) → let disk = disk_of recording in
    HasOwnSyncs SYNC 32 480 0 disk.sectors Names (place_of (row_size disk) 0 512 rows)
    (AreSectors disk.sectors 512) (ring_of disk track)
unfolding total
own_syncs recording track =
    let disk = disk_of recording in record {
      lead = 1;
      rest = sync_rest;
      short = omega (arith, length-sync_rest);
      leads = λ cells s stands named. leads cells stands;
      only = λ bytes given.
          syncs-in_symbols (row_symbols disk track) 0 disk.sectors 512 rows bytes (row_size disk)
          (symbols_sized disk track) given.whole TwoMarks 1
          (λ s number. sector_part (info_of disk track s) (longs_of (bytes_of 0 512 bytes s)))
          (no-symbols TwoMarks) (gap_quiet disk.track_gap) (last_zero recording track)
          (track_begins disk track bytes disk.sectors (sound recording).some);
    }
