-- Rows of bytes and marks: the cells of such rows, how far their ones are apart, and where a
-- sync stands in a track of them.
use Rattle.std.specs.Prelude.{◌≡◌, ℕ, zero, suc, ◌+◌, ◌-◌, ◌*◌, ◌<◌, ◌≤◌, Bool, true, false, ◌&&◌}
use Rattle.std.specs.Prelude.{List, [], ◌∷◌, ◌++◌, length, refl}
use Rattle.std.specs.List.{flat_map, range_with_len}
use Rattle.std.proofs.Common.{ap, sym, subst, ◌∙◌, arith, lit≤, length-append}
use Rattle.std.proofs.lemmas.List.Concat.{flat_map-append}
use Rattle.cell_bits.specs.Bytes.{mfm, mfm_cells}
use Rattle.cell_bits.specs.Word.{word_cells}
use Rattle.track_rings.specs.lemmas.Owning.{IsSyncPlace}
use Rattle.track_rings.specs.Rings.{IsSectorNumber, bytes_of}
use Rattle.track_rings.specs.lemmas.RowLaws.{last_of-append}
use Rattle.track_rings.specs.Rows.{TrackRow, Rows, coded as coded_rows, last_of, part_cells}
use Rattle.track_rings.specs.Rows.{parts_of, pitch_of, place_of, ring_of, rows_cells, sector_parts}
use Rattle.track_rings.specs.Rows.{sector_rows, total, track_parts}
use Rattle.track_rings.specs.Spaced.{MayFollow, is_spaced, is_zero, zeros_after}
use Rattle.track_rings.specs.lemmas.SpacedLaws.{MayFollowAll, follow-append, follow-none}
use Rattle.track_rings.specs.lemmas.SpacedLaws.{follow-one}
use Rattle.track_rings.specs.lemmas.Syncs.{Only}
use Rattle.track_rings.specs.lemmas.TrackLaws.{length-bytes_of}
use Rattle.mfm_coding.specs.declared.symbol.Symbol.{Symbol}
use Rattle.mfm_coding.specs.declared.symbol.Symbol.TheVariants.{Data, SyncMark, IndexMark}
use Rattle.mfm_coding.specs.Coding.{coded, low_bit, symbol_cells}
use Rattle.mfm_coding.specs.lemmas.CodingLaws.{coded-append, last_bit, last_bit-append}
use Rattle.mfm_coding.specs.lemmas.MarkPlaces.{FollowsBit, QuietSymbols, SyncSymbols, sectors_part}
use Rattle.mfm_coding.specs.lemmas.MarkPlaces.{symbols-skip, symbols-then}

-- the last cell is the last data bit
last_of-symbol : (before : Bool) (symbol : Symbol)
    → last_of before (symbol_cells before symbol) ≡ low_bit symbol
unfolding last_of symbol_cells mfm mfm_cells word_cells
last_of-symbol before (Data byte) = refl
last_of-symbol before SyncMark = refl
last_of-symbol before IndexMark = refl

pub last_of-coded : (before : Bool) (symbols : List Symbol)
    → last_of before (coded before symbols) ≡ last_bit before symbols
unfolding last_of coded
last_of-coded before [] = refl
last_of-coded before (symbol ∷ symbols) =
    last_of-append before (symbol_cells before symbol) (coded (low_bit symbol) symbols)
    ∙ ap (λ (bit : Bool). last_of bit (coded (low_bit symbol) symbols))
    (last_of-symbol before symbol)
    ∙ last_of-coded (low_bit symbol) symbols

-- data bits: ones are two to four cells apart, and at most two zeros stand last
bits-follow : (bits : List Bool) → MayFollow 2 4 2 true (λ before. mfm_cells before bits)
unfolding mfm_cells is_spaced zeros_after
bits-follow [] seen low = (refl, low)
bits-follow (true ∷ bits) zero low = bits-follow bits 0 (lit≤ tt)
bits-follow (true ∷ bits) (suc zero) low = bits-follow bits 0 (lit≤ tt)
bits-follow (true ∷ bits) (suc (suc zero)) low = bits-follow bits 0 (lit≤ tt)
bits-follow (false ∷ bits) zero low = bits-follow bits 2 (lit≤ tt)
bits-follow (false ∷ bits) (suc zero) low = bits-follow bits 1 (lit≤ tt)
bits-follow (false ∷ bits) (suc (suc zero)) low = bits-follow bits 1 (lit≤ tt)
bits-follow (bit ∷ bits) (suc (suc (suc seen))) low = absurd (omega arith)

sync_mark-follows : MayFollow 2 4 2 true (λ before. word_cells 16 0x4489)
unfolding word_cells is_spaced zeros_after
sync_mark-follows zero low = (refl, lit≤ tt)
sync_mark-follows (suc zero) low = (refl, lit≤ tt)
sync_mark-follows (suc (suc zero)) low = (refl, lit≤ tt)
sync_mark-follows (suc (suc (suc seen))) low = absurd (omega arith)

index_mark-follows : MayFollow 2 4 2 true (λ before. word_cells 16 0x5224)
unfolding word_cells is_spaced zeros_after
index_mark-follows zero low = (refl, lit≤ tt)
index_mark-follows (suc zero) low = (refl, lit≤ tt)
index_mark-follows (suc (suc zero)) low = (refl, lit≤ tt)
index_mark-follows (suc (suc (suc seen))) low = absurd (omega arith)

-- a byte or a mark
symbol-follows : (symbol : Symbol) → MayFollow 2 4 2 true (λ before. symbol_cells before symbol)
unfolding symbol_cells mfm
symbol-follows (Data byte) = bits-follow (word_cells 8 byte)
symbol-follows SyncMark = sync_mark-follows
symbol-follows IndexMark = index_mark-follows

-- each of them may be seen as a row
symbols-rows : (before : Bool) (symbols : List Symbol)
    → coded_rows true symbol_cells before symbols ≡ coded before symbols
unfolding coded_rows coded
symbols-rows before [] = refl
symbols-rows before (symbol ∷ symbols) =
    ap (λ (bit : Bool). symbol_cells before symbol ++ coded_rows true symbol_cells bit symbols)
    (last_of-symbol before symbol)
    ∙ ap (λ (cells : List Bool). symbol_cells before symbol ++ cells)
    (symbols-rows (low_bit symbol) symbols)

symbols-all : (symbols : List Symbol) → MayFollowAll 2 4 2 true symbol_cells symbols
symbols-all [] = follow-none 2 4 2 true symbol_cells
symbols-all (symbol ∷ symbols) =
    follow-append 2 4 2 true symbol_cells (symbol ∷ []) symbols
    (follow-one 2 4 2 true symbol_cells symbol (symbol-follows symbol)) (symbols-all symbols)

-- Bytes and marks, as many as there are, may follow any others.
pub symbols-follow : (symbols : List Symbol) → MayFollow 2 4 2 true (λ before. coded before symbols)
symbols-follow symbols seen low =
    subst (λ (cells : List Bool). (is_spaced 2 4 seen cells ≡ true) × (zeros_after seen cells ≤ 2))
    (symbols-rows (true && is_zero seen) symbols)
    (symbols-all symbols seen low)

-- A track whose rows are bytes and marks.
module _ {Row : Type 0} (symbols_of : ℕ → List ℕ → Row → List Symbol) where
  -- the cells of a row
  abbrev pub symbol_row : Bool → ℕ → List ℕ → Row → List Bool
  symbol_row before sector bytes row = coded before (symbols_of sector bytes row)

  -- the symbols of rows, for this sector with these bytes
  abbrev pub rows_symbols : ℕ → List ℕ → List Row → List Symbol
  rows_symbols sector bytes rows = flat_map (symbols_of sector bytes) rows

  part_symbols : TrackRow Row → List Symbol
  part_symbols part = symbols_of part.sector part.bytes part.row

  parts-coded : (before : Bool) (parts : List (TrackRow Row))
      → coded_rows true (part_cells symbol_row) before parts
      ≡ coded before (flat_map part_symbols parts)
  unfolding coded_rows coded part_symbols
  parts-coded before [] = refl
  parts-coded before (part ∷ parts) =
      let first = part_symbols part in
      let cells = coded before first in
      ap (λ (bit : Bool). cells ++ coded_rows true (part_cells symbol_row) bit parts)
      (last_of-coded before first)
      ∙ ap (λ (rest : List Bool). cells ++ rest) (parts-coded (last_bit before first) parts)
      ∙ sym (coded-append before first (flat_map part_symbols parts))

  parts-symbols : (sector : ℕ) (bytes : List ℕ) (rows : List Row)
      → flat_map part_symbols (parts_of sector bytes rows) ≡ rows_symbols sector bytes rows
  unfolding part_symbols
  parts-symbols sector bytes [] = refl
  parts-symbols sector bytes (row ∷ rows) =
      ap (λ (rest : List Symbol). symbols_of sector bytes row ++ rest)
      (parts-symbols sector bytes rows)

  -- rows are coded as their symbols are, one after another
  pub rows-coded : (before : Bool) (sector : ℕ) (bytes : List ℕ) (rows : List Row)
      → rows_cells true symbol_row before sector bytes rows
      ≡ coded before (rows_symbols sector bytes rows)
  unfolding rows_cells
  rows-coded before sector bytes rows =
      parts-coded before (parts_of sector bytes rows)
      ∙ ap (coded before) (parts-symbols sector bytes rows)

  -- and the cell that they end with is their last data bit
  pub rows-end : (before : Bool) (sector : ℕ) (bytes : List ℕ) (rows : List Row)
      → (true && last_of before (rows_cells true symbol_row before sector bytes rows))
      ≡ last_bit before (rows_symbols sector bytes rows)
  rows-end before sector bytes rows =
      ap (last_of before) (rows-coded before sector bytes rows)
      ∙ last_of-coded before (rows_symbols sector bytes rows)

  module _ (first sectors size : ℕ) (rows : Rows Row) (bytes : List ℕ) where
    -- one sector, of the bytes of all
    abbrev pub sector_symbols : ℕ → List Symbol
    sector_symbols sector =
        rows_symbols sector (bytes_of first size bytes sector) (sector_rows rows)

    -- the whole track
    abbrev pub track_symbols : List Symbol
    track_symbols =
        rows_symbols first [] rows.lead_in
        ++ (flat_map sector_symbols (range_with_len first sectors)
        ++ rows_symbols first [] rows.lead_out)

    sectors-symbols : (numbers : List ℕ)
        → flat_map part_symbols (flat_map (sector_parts first size bytes rows) numbers)
        ≡ flat_map sector_symbols numbers
    unfolding sector_parts
    sectors-symbols [] = refl
    sectors-symbols (n ∷ numbers) =
        let content = bytes_of first size bytes n in
        let here = parts_of n content (sector_rows rows) in
        flat_map-append part_symbols here (flat_map (sector_parts first size bytes rows) numbers)
        ∙ ap
        (λ (some : List Symbol).
        some ++ flat_map part_symbols (flat_map (sector_parts first size bytes rows) numbers))
        (parts-symbols n content (sector_rows rows))
        ∙ ap (λ (rest : List Symbol). sector_symbols n ++ rest) (sectors-symbols numbers)

    -- the ring is coded as all its symbols are, after a zero
    pub ring-coded : ring_of true symbol_row first sectors size bytes rows
        ≡ coded false track_symbols
    unfolding ring_of track_parts
    ring-coded =
        let lead_in = parts_of first [] rows.lead_in in
        let all = flat_map (sector_parts first size bytes rows) (range_with_len first sectors) in
        let lead_out = parts_of first [] rows.lead_out in
        parts-coded false (lead_in ++ (all ++ lead_out))
        ∙ ap (coded false)
        (flat_map-append part_symbols lead_in (all ++ lead_out)
        ∙ ap (λ (some : List Symbol). some ++ flat_map part_symbols (all ++ lead_out))
        (parts-symbols first [] rows.lead_in)
        ∙ ap (λ (rest : List Symbol). rows_symbols first [] rows.lead_in ++ rest)
        (flat_map-append part_symbols all lead_out
        ∙ ap (λ (some : List Symbol). some ++ flat_map part_symbols lead_out)
        (sectors-symbols (range_with_len first sectors))
        ∙ ap
        (λ (rest : List Symbol). flat_map sector_symbols (range_with_len first sectors) ++ rest)
        (parts-symbols first [] rows.lead_out)))

    module _ (size_of : ℕ → Row → ℕ)
        (sized : (sector : ℕ) (content : List ℕ) (row : Row)
        → 16 * length (symbols_of sector content row) ≡ size_of (length content) row)
        (whole : length bytes ≡ sectors * size) (Test : List Bool → Type 0) (lead : ℕ) where
      length-rows : (sector : ℕ) (content : List ℕ) (some : List Row)
          → 16 * length (rows_symbols sector content some) ≡ total (size_of (length content)) some
      unfolding total
      length-rows sector content [] = refl
      length-rows sector content (row ∷ some) =
          let e =
          length-append (symbols_of sector content row) (rows_symbols sector content some) in
          omega (arith, e, sized sector content row, length-rows sector content some)

      -- Where a sync begins in each sector at one place, `lead` cells after its frame does, and
      -- else nowhere, it begins in the ring where the sectors' frames do.
      pub syncs-in_symbols : ((s : ℕ) → IsSectorNumber first sectors s
          → SyncSymbols Test (λ place. place ≡ total (size_of size) rows.before + lead)
          (sector_symbols s))
          → QuietSymbols Test (rows_symbols first [] rows.lead_in)
          → QuietSymbols Test (rows_symbols first [] rows.lead_out)
          → ((before : Bool) → last_bit before (rows_symbols first [] rows.lead_out) ≡ false)
          → FollowsBit false (coded false track_symbols)
          → Only Test (IsSyncPlace (place_of size_of first size rows) first sectors lead)
          (ring_of true symbol_row first sectors size bytes rows)
          (ring_of true symbol_row first sectors size bytes rows)
      syncs-in_symbols in_sector in_lead_in in_lead_out ends begins =
          let front = rows_symbols first [] rows.lead_in in
          let all = flat_map sector_symbols (range_with_len first sectors) in
          let last = rows_symbols first [] rows.lead_out in
          let pitch = pitch_of size_of size rows in
          let Here : ℕ → Type 0 =
          IsSyncPlace (place_of size_of first size rows) first sectors lead in
          let size_in : 16 * length front ≡ total (size_of 0) rows.lead_in =
          length-rows first [] rows.lead_in in
          let number_of : (s : ℕ) → first ≤ s → s < first + sectors
          → IsSectorNumber first sectors s =
          λ s least most. record { least = least; most = most } in
          let middle : SyncSymbols Test (λ place. Here (16 * length front + place)) all =
          λ before rest follows.
          let at = sectors_part Test sector_symbols pitch (total (size_of size) rows.before + lead)
          first sectors
          (λ s least most.
          length-rows s (bytes_of first size bytes s) (sector_rows rows)
          ∙ ap (λ (n : ℕ). total (size_of n) (sector_rows rows))
          (length-bytes_of first sectors size bytes s whole (number_of s least most)))
          (λ s bit least most. in_sector s (number_of s least most) bit) before rest follows in (
            λ place within test.
                let k = at.0 place within test in
                let e : (first + k.0 - first) * pitch ≡ k.0 * pitch =
                ap (λ (n : ℕ). n * pitch) (add-sub first k.0) in (
                  first + k.0,
                  record { least = omega arith; most = omega (arith, k.1) },
                  omega (arith, k.2, size_in, e),
                ),
            at.1,
          ) in
          let part = symbols-skip Test Here front (all ++ last) in_lead_in
          (symbols-then Test (λ place. Here (16 * length front + place)) all last middle
          in_lead_out) in
          let bit : last_bit false track_symbols ≡ false =
          last_bit-append false front (all ++ last)
          ∙ last_bit-append (last_bit false front) all last
          ∙ ends (last_bit (last_bit false front) all) in
          let ring = coded false track_symbols in
          let only =
          (part false ring (subst (λ (b : Bool). FollowsBit b ring) (sym bit) begins)).0 in
          subst (λ (cells : List Bool). Only Test Here cells cells) (sym ring-coded) only
        where
          add-sub : (m n : ℕ) → m + n - m ≡ n
          add-sub m n = omega arith
