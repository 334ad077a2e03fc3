-- Where a sync with its block's first byte stands in a ring, and of them a header's: only
-- where a sector's header begins.
use Rattle.std.specs.Prelude.{◌≡◌, ℕ, zero, suc, ◌+◌, ◌-◌, ◌/◌, ◌%◌, ◌<◌, ◌≤◌, ◌⊎◌, Bool, true}
use Rattle.std.specs.Prelude.{false, List, [], ◌∷◌, ◌++◌, length, take, drop, get_or, replicate}
use Rattle.std.specs.Prelude.{Option, Some, nat_lt, refl}
use Rattle.std.specs.List.{flat_map, range_with_len}
use Rattle.std.proofs.Common.{ap, sym, ◌∙◌, arith, inl, inr, lit<, lit≤}
use Rattle.std.proofs.Math.Seq.{take-add}
use Rattle.std.proofs.lemmas.Bool.{agree_below, agree_below_at}
use Rattle.std.proofs.lemmas.Bool.Decides.{nat_tests}
use Rattle.std.proofs.lemmas.List.{drop-drop, get_or-append-add, get_or-drop, get_or-replicate}
use Rattle.std.proofs.lemmas.List.{get_or-take, take-take}
use Rattle.std.proofs.Math.ListN.{get_or-append}
use Rattle.flux_base.specs.declared.track.TrackId.{TrackId}
use Rattle.check_values.specs.Sums.{xor}
use Rattle.cell_bits.specs.Word.{Stands, word_cells}
use Rattle.cell_bits.specs.lemmas.WordLaws.{length-word_cells}
use Rattle.track_rings.specs.lemmas.Owning.{IsSyncPlace}
use Rattle.track_rings.specs.Rings.{AreSectors, bytes_of}
use Rattle.track_rings.specs.lemmas.RowSyncs.{syncs-in_ring}
use Rattle.track_rings.specs.Rows.{coded, part_cells, place_of, ring_of as ring_of_rows, rows_cells}
use Rattle.track_rings.specs.Rows.{sector_parts, sector_rows, total, track_parts}
use Rattle.track_rings.specs.lemmas.Syncs.{Nowhere, Only, QuietPart, SyncPart, Syncs, all_known}
use Rattle.track_rings.specs.lemmas.Syncs.{fits, fits-word, part-append, part-skip, part-then}
use Rattle.track_rings.specs.lemmas.Syncs.{quiet-all, quiet-append, quiet-none}
use Rattle.frame_law.specs.lemmas.OwnFrames.{HasOwnSyncs}
use Rattle.track_rings.specs.lemmas.Owning.{Leads}
use Rattle.commodore_gcr.specs.declared.layout.Row.TheVariants.{HeaderBlock, HeaderGap}
use Rattle.commodore_gcr.specs.declared.recording.CommodoreGcr.{CommodoreGcr}
use Rattle.commodore_gcr.specs.Coding.{code_of, gcr, gcr_bytes}
use Rattle.commodore_gcr.specs.Layout.{gap_bytes, gap_cells, ring_of, row_cells, row_size, rows}
use Rattle.commodore_gcr.specs.lemmas.RowLaws.{nibble-lt, row_length}
use Rattle.flux_base.specs.declared.header_name.HeaderName.{HeaderName}
use Rattle.flux_base.specs.declared.header_name.HeaderName.TheVariants.{Address, TrackSector}
use Rattle.flux_base.specs.declared.header_name.HeaderName.TheVariants.{TrackSectorSide}
use Rattle.commodore_gcr.specs.Sectors.{DATA_BYTE, DATA_FILL, HEADER_BYTE, Names, data_bytes}
use Rattle.commodore_gcr.specs.Sectors.{header_block}
use Rattle.commodore_gcr.specs.lemmas.ZoneLaws.{counts}
use Rattle.commodore_gcr.specs.Zones.{sectors_of, zone_of}

-- a sync with its block's first byte, without its first one: nine ones more, and the byte's code
unfoldable pub sync_rest : ℕ → List (Option Bool)
sync_rest byte = all_known (replicate 9 true ++ gcr byte)

abbrev pub block_sync : ℕ → List (Option Bool)
block_sync byte = Some true ∷ sync_rest byte

pub length-sync_rest : (byte : ℕ) → length (sync_rest byte) ≡ 19
unfolding sync_rest gcr word_cells
length-sync_rest byte = refl

-- a sync before that byte begins so
pub sync-leads : (byte : ℕ) (cells : List Bool) (place : ℕ) → Stands cells 0x7FE 11 place
    → take 10 (drop (place + 10) cells) ≡ gcr byte
    → Syncs (block_sync byte) (drop place cells)
unfolding sync_rest gcr word_cells
sync-leads byte cells place stands code =
    let from = drop place cells in
    let ones : take 10 from ≡ replicate 10 true =
    sym (take-take 10 11 from (omega arith)) ∙ ap (take 10) stands in
    let there : take 10 (drop 10 from) ≡ gcr byte =
    ap (take 10) (drop-drop 10 place cells) ∙ code in
    fits-word (replicate 10 true ++ gcr byte) from 20 refl
    (take-add 10 10 from ∙ ap (λ (first : List Bool). first ++ take 10 (drop 10 from)) ones
    ∙ ap (λ (last : List Bool). replicate 10 true ++ last) there)

-- the cells of a known word
known-take : (word cells : List Bool) → fits (all_known word) cells ≡ true
    → take (length word) cells ≡ word
unfolding fits
known-take [] cells fit = refl
known-take (cell ∷ word) [] fit = absurd (cc)
known-take (true ∷ word) (true ∷ cells) fit =
    ap (λ (rest : List Bool). true ∷ rest) (known-take word cells fit)
known-take (true ∷ word) (false ∷ cells) fit = absurd (cc)
known-take (false ∷ word) (true ∷ cells) fit = absurd (cc)
known-take (false ∷ word) (false ∷ cells) fit =
    ap (λ (rest : List Bool). false ∷ rest) (known-take word cells fit)

-- so many ones stand first
Ones : ℕ → List Bool → Type 0
Ones count cells = (k : ℕ) → k < count → get_or cells k false ≡ true

ones-before : (more count : ℕ) (rest : List Bool) → Ones count rest
    → Ones (more + count) (replicate more true ++ rest)
unfolding Ones
ones-before zero count rest ones k low = ones k (omega arith)
ones-before (suc more) count rest ones zero low = refl
ones-before (suc more) count rest ones (suc k) low =
    ones-before more count rest ones k (omega arith)

TenOnes : List Bool → Type 0
TenOnes cells = Ones 10 cells

ten_ones : (more : ℕ) (rest : List Bool) → 10 ≤ more → TenOnes (replicate more true ++ rest)
unfolding TenOnes Ones
ten_ones more rest enough k low =
    ones-before more 0 rest (λ i none. absurd (omega arith)) k (omega arith)

-- what may follow a code: a zero among the first five cells, or ten ones
Follows : List Bool → Type 0
Follows cells = ((k : ℕ) × (k < 5) × (get_or cells k false ≡ false)) ⊎ TenOnes cells

-- the first zero of cells
zero_of : List Bool → ℕ
zero_of [] = 0
zero_of (true ∷ cells) = suc (zero_of cells)
zero_of (false ∷ cells) = 0

zero_of-is : (cells : List Bool) → get_or cells (zero_of cells) false ≡ false
unfolding zero_of
zero_of-is [] = refl
zero_of-is (true ∷ cells) = zero_of-is cells
zero_of-is (false ∷ cells) = refl

codes_have_zeros : agree_below (λ n. nat_lt (zero_of (word_cells 5 (code_of n))) 5) (λ n. true) 16
    ≡ true
unfolding zero_of code_of word_cells
codes_have_zeros = refl

lt-of : (a b : ℕ) → nat_lt a b ≡ true → a < b
lt-of a b test = grind (arith, nat_tests)

-- cells that stand before a block with this first byte: the zero with which it begins, and the
-- first cell of its second nibble
pub Opens : ℕ → List Bool → Type 0
Opens first cells =
    (get_or cells 0 false ≡ false) × (get_or cells 5 false ≡ get_or (gcr first) 5 false)

-- bytes of which the first cell of the second nibble differs
abbrev pub Differ : ℕ → ℕ → Type 0
Differ first byte = ¬ (get_or (gcr first) 5 false ≡ get_or (gcr byte) 5 false)

-- a byte whose code begins with a zero, as that of a header or of data
abbrev pub BeginsLow : ℕ → Type 0
BeginsLow byte = get_or (gcr byte) 0 false ≡ false

pub both_begin_low : BeginsLow HEADER_BYTE × BeginsLow DATA_BYTE
unfolding gcr code_of word_cells
both_begin_low = (refl, refl)

-- a ring begins with ones
sectors_follow : (disk : CommodoreGcr) (track : TrackId) (bytes : List ℕ) (count : ℕ) → 1 ≤ count
    → Follows
    (coded false (part_cells (row_cells disk track)) false
    (flat_map (sector_parts 0 256 bytes rows) (range_with_len 0 count) ++ []))
unfolding coded sector_parts Follows
sectors_follow disk track bytes zero some = absurd (omega arith)
sectors_follow disk track bytes (suc count) some = inr (ten_ones 30 _ (lit≤ tt))

ring_follows : (disk : CommodoreGcr) (track : TrackId) (bytes : List ℕ)
    → Follows (ring_of disk track bytes)
unfolding ring_of_rows track_parts
ring_follows disk track bytes =
    sectors_follow disk track bytes (sectors_of disk.drive track) (counts disk.drive track).0

module _ (byte : ℕ) (begins : BeginsLow byte) where
  sync-cell : (cells : List Bool) (k : ℕ) → Syncs (block_sync byte) cells → k < 20
      → get_or cells k false ≡ get_or (replicate 10 true ++ gcr byte) k false
  unfolding sync_rest gcr word_cells
  sync-cell cells k test low =
      sym (get_or-take 20 cells k false low)
      ∙ ap (λ (word : List Bool). get_or word k false)
      (known-take (replicate 10 true ++ gcr byte) cells test)

  -- it begins neither less than ten cells before a zero nor ten cells before a one
  zero-clash : (cells : List Bool) (place zero_place : ℕ) → place ≤ zero_place
      → zero_place < place + 10 → get_or cells zero_place false ≡ false
      → ¬ Syncs (block_sync byte) (drop place cells)
  zero-clash cells place zero_place above below is_zero test =
      let e : place + (zero_place - place) ≡ zero_place = omega arith in
      let k = zero_place - place in
      let low : k < 10 = omega arith in
      let one = sync-cell (drop place cells) k test (omega (arith, low))
      ∙ get_or-append (replicate 10 true) (gcr byte) false k low
      ∙ get_or-replicate 10 k true false low in
      let there = get_or-drop place cells (zero_place - place) false
      ∙ ap (λ (n : ℕ). get_or cells n false) e in
      cc

  one-clash : (cells : List Bool) (place : ℕ) → get_or cells (place + 10) false ≡ true
      → ¬ Syncs (block_sync byte) (drop place cells)
  one-clash cells place is_one test =
      let last : get_or (drop place cells) 10 false ≡ false =
      sync-cell (drop place cells) 10 test (lit< tt) ∙ begins in
      let there = get_or-drop place cells 10 false in
      cc

  -- a few cells with a zero
  short_nowhere : (xs rest : List Bool) → length xs ≤ 5 → Follows rest
      → Nowhere (Syncs (block_sync byte)) xs rest
  unfolding Follows TenOnes Ones
  short_nowhere xs rest short (inl has) place within test =
      zero-clash (xs ++ rest) place (length xs + has.0) (omega arith) (omega (arith, has.1))
      (get_or-append-add xs rest has.0 false ∙ has.2) test
  short_nowhere xs rest short (inr ones) place within test =
      let k = place + 10 - length xs in
      let e : place + 10 ≡ length xs + k = omega arith in
      one-clash (xs ++ rest) place
      (ap (λ (n : ℕ). get_or (xs ++ rest) n false) e ∙ get_or-append-add xs rest k false
      ∙ ones k (omega arith)) test

  short_quiet : (xs : List Bool) → length xs ≤ 5 → zero_of xs < length xs
      → QuietPart (Syncs (block_sync byte)) Follows Follows xs
  unfolding Follows
  short_quiet xs short has rest follows = (
    short_nowhere xs rest short follows,
    inl (zero_of xs, omega arith, get_or-append xs rest false (zero_of xs) has ∙ zero_of-is xs),
  )

  code_quiet : (number : ℕ)
      → QuietPart (Syncs (block_sync byte)) Follows Follows (word_cells 5 (code_of (number % 16)))
  code_quiet number =
      let code = word_cells 5 (code_of (number % 16)) in
      let long : length code ≡ 5 = length-word_cells 5 (code_of (number % 16)) in
      let has = lt-of (zero_of code) 5
      (agree_below_at (λ n. nat_lt (zero_of (word_cells 5 (code_of n))) 5) (λ n. true) 16
      (number % 16) codes_have_zeros (nibble-lt number)) in
      short_quiet code (omega (arith, long)) (omega (arith, long, has))

  byte_quiet : (other : ℕ) → QuietPart (Syncs (block_sync byte)) Follows Follows (gcr other)
  unfolding gcr
  byte_quiet other =
      quiet-append (Syncs (block_sync byte)) Follows Follows Follows
      (word_cells 5 (code_of (other / 16 % 16))) (word_cells 5 (code_of (other % 16)))
      (code_quiet (other / 16)) (code_quiet other)

  bytes_quiet : (bytes : List ℕ)
      → QuietPart (Syncs (block_sync byte)) Follows Follows (gcr_bytes bytes)
  bytes_quiet bytes = quiet-all (Syncs (block_sync byte)) Follows gcr byte_quiet bytes

  -- a block with this first byte
  block_quiet : (first : ℕ) (bytes : List ℕ) → BeginsLow first
      → QuietPart (Syncs (block_sync byte)) Follows (Opens first) (gcr_bytes (first ∷ bytes))
  unfolding Opens gcr word_cells
  block_quiet first bytes low rest follows =
      ((bytes_quiet (first ∷ bytes) rest follows).0, (low, refl))

  -- a byte of a gap, in two halves
  gap_byte_quiet : QuietPart (Syncs (block_sync byte)) Follows Follows (word_cells 8 0x55)
  unfolding zero_of word_cells
  gap_byte_quiet =
      quiet-append (Syncs (block_sync byte)) Follows Follows Follows (word_cells 4 0x5)
      (word_cells 4 0x5)
      (short_quiet (word_cells 4 0x5) (lit≤ tt) (lit< tt))
      (short_quiet (word_cells 4 0x5) (lit≤ tt) (lit< tt))

  gap_quiet : (count : ℕ) → QuietPart (Syncs (block_sync byte)) Follows Follows (gap_cells count)
  gap_quiet zero = quiet-none (Syncs (block_sync byte)) Follows
  gap_quiet (suc count) =
      quiet-append (Syncs (block_sync byte)) Follows Follows Follows (word_cells 8 0x55)
      (gap_cells count) gap_byte_quiet (gap_quiet count)

  -- the first ones of a sync mark, before ten ones
  lead_quiet : QuietPart (Syncs (block_sync byte)) TenOnes Follows (replicate 30 true)
  unfolding Follows TenOnes Ones
  lead_quiet rest ones = (
    λ place within test.
        one-clash (replicate 30 true ++ rest) place
        (ones-before 30 10 rest ones (place + 10) (omega (arith, within))) test,
    inr (ten_ones 30 rest (lit≤ tt)),
  )

  -- The last ten ones, before a block: the sync begins at most at the first of them, and not there
  -- where the block's first byte differs.
  ones_part : (Here : ℕ → Type 0) (first : ℕ) → (Here 0) ⊎ Differ first byte
      → SyncPart (Syncs (block_sync byte)) Here (Opens first) TenOnes (replicate 10 true)
  unfolding Opens
  ones_part Here first at rest opens = (only at, ten_ones 10 rest (lit≤ tt))
    where
      only : (Here 0) ⊎ Differ first byte → (place : ℕ) → place < 10
          → Syncs (block_sync byte) (drop place (replicate 10 true ++ rest)) → Here place
      only (inl here) zero within test = here
      only (inr differ) zero within test =
          absurd (differ (sym opens.1 ∙ sync-cell (replicate 10 true ++ rest) 15 test (lit< tt)))
      only some (suc place) within test =
          absurd
          (zero-clash (replicate 10 true ++ rest) (suc place) 10 (omega arith) (omega arith)
          opens.0 test)

  -- A sector, in which the sync begins so many cells after the frame does:
  -- with the header or with the data.
  sector_part : (lead : ℕ) → (0 ≡ lead) ⊎ Differ HEADER_BYTE byte
      → (192 ≡ lead) ⊎ Differ DATA_BYTE byte
      → (disk : CommodoreGcr) (track : TrackId) (before : Bool) (s : ℕ) (bytes : List ℕ)
      → SyncPart (Syncs (block_sync byte)) (λ place. place ≡ 30 + lead) Follows Follows
      (rows_cells false (row_cells disk track) before s bytes (sector_rows rows))
  unfolding rows_cells coded
  sector_part lead in_header in_data disk track before s bytes =
      let Test : List Bool → Type 0 = Syncs (block_sync byte) in
      let gap = gap_cells (gap_bytes (zone_of disk.drive track)) in
      let last = gcr_bytes DATA_FILL ++ (gap ++ []) in
      let stored = gcr_bytes (data_bytes bytes) ++ last in
      let data_sync = replicate 10 true ++ stored in
      let lead_ones = replicate 30 true ++ data_sync in
      let block = gcr_bytes (header_block disk.drive disk.id1 disk.id2 track s) in
      let block_size : length block ≡ 80 = row_length disk track before s bytes HeaderBlock in
      let gap_size : length (gap_cells 9) ≡ 72 = row_length disk track before s bytes HeaderGap in
      let Header : ℕ → Type 0 = λ place. 30 + place ≡ 30 + lead in
      let Stored : ℕ → Type 0 =
      λ place. 30 + (10 + (length block + (length (gap_cells 9) + (30 + place)))) ≡ 30 + lead in
      let header_at : (Header 0) ⊎ Differ HEADER_BYTE byte =
      elim in_header [ inl own ↦ inl (omega (arith, own)) | inr differ ↦ inr differ ] in
      let data_at : (Stored 0) ⊎ Differ DATA_BYTE byte =
      elim in_data
      [ inl own ↦ inl (omega (arith, own, block_size, gap_size)) | inr differ ↦ inr differ ] in
      let quiet_stored =
      quiet-append Test Follows Follows (Opens DATA_BYTE) (gcr_bytes (data_bytes bytes)) last
      (block_quiet DATA_BYTE (bytes ++ xor bytes ∷ []) both_begin_low.1)
      (quiet-append Test Follows Follows Follows (gcr_bytes DATA_FILL) (gap ++ [])
      (bytes_quiet DATA_FILL)
      (quiet-append Test Follows Follows Follows gap []
      (gap_quiet (gap_bytes (zone_of disk.drive track))) (quiet-none Test Follows))) in
      part-skip Test (λ place. place ≡ 30 + lead) Follows TenOnes Follows (replicate 30 true)
      (replicate 10 true ++ (block ++ (gap_cells 9 ++ lead_ones))) lead_quiet
      (part-append Test Header Follows (Opens HEADER_BYTE) TenOnes (replicate 10 true)
      (block ++ (gap_cells 9 ++ lead_ones)) (ones_part Header HEADER_BYTE header_at)
      (part-skip Test (λ place. 30 + (10 + place) ≡ 30 + lead) Follows Follows (Opens HEADER_BYTE)
      block (gap_cells 9 ++ lead_ones)
      (block_quiet HEADER_BYTE (drop 1 (header_block disk.drive disk.id1 disk.id2 track s))
      both_begin_low.0)
      (part-skip Test (λ place. 30 + (10 + (length block + place)) ≡ 30 + lead) Follows Follows
      Follows (gap_cells 9) lead_ones (gap_quiet 9)
      (part-skip Test
      (λ place. 30 + (10 + (length block + (length (gap_cells 9) + place))) ≡ 30 + lead) Follows
      TenOnes Follows (replicate 30 true) data_sync lead_quiet
      (part-then Test Stored Follows (Opens DATA_BYTE) TenOnes (replicate 10 true) stored
      (ones_part Stored DATA_BYTE data_at) quiet_stored)))))

  -- So in the ring it begins so many cells after the sectors' frames do: with the header or with
  -- the data, where the first byte of the other differs.
  pub only_in_syncs : (disk : CommodoreGcr) (track : TrackId) (lead : ℕ)
      → (0 ≡ lead) ⊎ Differ HEADER_BYTE byte → (192 ≡ lead) ⊎ Differ DATA_BYTE byte
      → (bytes : List ℕ) → AreSectors (sectors_of disk.drive track) 256 bytes
      → Only (Syncs (block_sync byte))
      (IsSyncPlace (place_of (row_size (zone_of disk.drive track)) 0 256 rows) 0
      (sectors_of disk.drive track) lead)
      (ring_of disk track bytes) (ring_of disk track bytes)
  unfolding total rows_cells coded
  only_in_syncs disk track lead in_header in_data bytes given =
      syncs-in_ring false (row_cells disk track) (row_size (zone_of disk.drive track))
      (row_length disk track) 0 (sectors_of disk.drive track) 256 rows bytes given.whole
      (Syncs (block_sync byte)) Follows lead
      (λ before s number.
      sector_part lead in_header in_data disk track before s (bytes_of 0 256 bytes s))
      (quiet-none (Syncs (block_sync byte)) Follows)
      (λ before. quiet-none (Syncs (block_sync byte)) Follows) (ring_follows disk track bytes)

-- the data's first byte differs
not_in_data : Differ DATA_BYTE HEADER_BYTE
unfolding gcr code_of word_cells
not_in_data same = cc

-- a header that has a name begins with its first byte
leads : (cells : List Bool) (name : HeaderName) → Stands cells 0x7FE 11 0 → Names cells name
    → Leads 0 (sync_rest HEADER_BYTE) cells
leads cells (TrackSector track sector) stands names =
    sync-leads HEADER_BYTE cells 0 stands (names.bytes 0 (lit< tt)).1
leads cells (Address cylinder head sector size) stands names = absurd names
leads cells (TrackSectorSide number sector side format) stands names = absurd names

-- so in the ring a header's begins where headers do
pub own_syncs : (disk : CommodoreGcr) (track : TrackId)
    → HasOwnSyncs 0x7FE 11 70 0 (sectors_of disk.drive track) Names
    (place_of (row_size (zone_of disk.drive track)) 0 256 rows)
    (AreSectors (sectors_of disk.drive track) 256) (ring_of disk track)
own_syncs disk track = record {
  lead = 0;
  rest = sync_rest HEADER_BYTE;
  short = omega (arith, length-sync_rest HEADER_BYTE);
  leads = leads;
  only = only_in_syncs HEADER_BYTE both_begin_low.0 disk track 0 (inl refl) (inr not_in_data);
}
