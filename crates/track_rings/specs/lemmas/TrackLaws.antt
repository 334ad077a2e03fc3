-- A track's ring, of the table of its rows: how long it is, where its sectors lie, that their
-- frames stand there, and how far its ones are apart.
use Rattle.std.specs.Prelude.{◌≡◌, ℕ, true, ◌+◌, ◌-◌, ◌*◌, ◌<◌, ◌≤◌, Bool, false, ◌&&◌, List, []}
use Rattle.std.specs.Prelude.{◌∷◌, ◌++◌, length, drop, refl}
use Rattle.std.specs.List.{flat_map, range_with_len}
use Rattle.std.proofs.Common.{ap, sym, subst, ◌∙◌, arith, inl, inr, append_assoc, length-drop}
use Rattle.std.proofs.lemmas.List.{length-take}
use Rattle.std.proofs.Math.Nat.{add-mul, mul-le-mul_right, one-mul}
use Rattle.cell_bits.specs.Broken.{Unbroken}
use Rattle.track_rings.specs.Rings.{AreSectors, IsSectorNumber, IsSpaced, LiesAt, bytes_of, stretch}
use Rattle.track_rings.specs.Rings.{AreBytes}
use Rattle.track_rings.specs.lemmas.RowLaws.{bit_after, bit_after-asked, bit_after-last}
use Rattle.track_rings.specs.lemmas.RowLaws.{coded-append, last_of-append, length-coded}
use Rattle.track_rings.specs.lemmas.RowLaws.{parts_of-append, total-append, total-each}
use Rattle.track_rings.specs.Rows.{IsContent, TrackRow, Rows, coded, frame_size, last_of}
use Rattle.track_rings.specs.Rows.{part_cells, part_size, parts_of, pitch_of, place_of, ring_of}
use Rattle.track_rings.specs.Rows.{ring_size, rows_cells, sector_parts, sector_rows, total}
use Rattle.track_rings.specs.Rows.{track_parts}
use Rattle.track_rings.specs.lemmas.SectorParts.{AreBytes-from, bytes_of-fit, sectors-parts}
use Rattle.track_rings.specs.Spaced.{MayFollow, is_spaced}
use Rattle.track_rings.specs.lemmas.SpacedLaws.{MayFollowAll, follow-append, follow-each}
use Rattle.track_rings.specs.lemmas.SpacedLaws.{follow-none, follow-one, follow-ring}
use Rattle.track_rings.specs.lemmas.SpacedLaws.{follow-unbroken, spaced-unbroken}
use Rattle.track_rings.specs.lemmas.Stretches.{frame-stands}

-- the bytes of a sector are as many as one has
pub length-bytes_of : (first sectors size : ℕ) (bytes : List ℕ) (sector : ℕ)
    → length bytes ≡ sectors * size → IsSectorNumber first sectors sector
    → length (bytes_of first size bytes sector) ≡ size
length-bytes_of first sectors size bytes sector whole number =
    let before = (sector - first) * size in
    let t = length-take size (drop before bytes) in
    let d = length-drop before bytes in
    let last : sector - first + 1 ≤ sectors = omega (arith, number.least, number.most) in
    let enough : (sector - first + 1) * size ≤ sectors * size = mul-le-mul_right size last in
    let one : (sector - first + 1) * size ≡ before + size = add-mul-one (sector - first) size in
    omega (arith, t, d, enough, one, whole)
  where
    add-mul-one : (n m : ℕ) → (n + 1) * m ≡ n * m + m
    add-mul-one n m = add-mul n 1 m ∙ ap (λ (k : ℕ). n * m + k) (one-mul m)

-- a sector with its bytes
pub content_of : (first sectors size : ℕ) (bytes : List ℕ) (sector : ℕ)
    → AreSectors sectors size bytes → IsSectorNumber first sectors sector
    → IsContent first sectors size sector (bytes_of first size bytes sector)
content_of first sectors size bytes sector given number = record {
  number = number;
  whole = inr (length-bytes_of first sectors size bytes sector given.whole number);
  fit = AreBytes-from (bytes_of first size bytes sector)
      (bytes_of-fit first size bytes sector given.fit);
}

-- none, outside of sectors
pub content_none : (first sectors size : ℕ) → 1 ≤ sectors → IsContent first sectors size first []
unfolding AreBytes
content_none first sectors size some = record {
  number = record { least = omega arith; most = omega (arith, some) };
  whole = inl refl;
  fit = tt;
}

module _ {Row : Type 0} (asks : Bool) (cells_of : Bool → ℕ → List ℕ → Row → List Bool)
    (size_of : ℕ → Row → ℕ)
    (sized : (before : Bool) (sector : ℕ) (bytes : List ℕ) (row : Row)
    → length (cells_of before sector bytes row) ≡ size_of (length bytes) row) where
  total-parts : (sector : ℕ) (bytes : List ℕ) (rows : List Row)
      → total (part_size size_of) (parts_of sector bytes rows) ≡ total (size_of (length bytes)) rows
  unfolding total
  total-parts sector bytes [] = refl
  total-parts sector bytes (row ∷ rows) =
      ap (λ (n : ℕ). size_of (length bytes) row + n) (total-parts sector bytes rows)

  length-parts : (before : Bool) (parts : List (TrackRow Row))
      → length (coded asks (part_cells cells_of) before parts) ≡ total (part_size size_of) parts
  length-parts before parts =
      length-coded asks (part_cells cells_of) (part_size size_of)
      (λ bit part. sized bit part.sector part.bytes part.row) before parts

  pub length-rows_cells : (before : Bool) (sector : ℕ) (bytes : List ℕ) (rows : List Row)
      → length (rows_cells asks cells_of before sector bytes rows)
      ≡ total (size_of (length bytes)) rows
  unfolding rows_cells
  length-rows_cells before sector bytes rows =
      length-parts before (parts_of sector bytes rows) ∙ total-parts sector bytes rows

  module _ (first sectors size : ℕ) (rows : Rows Row) (bytes : List ℕ)
      (given : length bytes ≡ sectors * size) where
    total-sector : (sector : ℕ) → IsSectorNumber first sectors sector
        → total (part_size size_of) (sector_parts first size bytes rows sector)
        ≡ pitch_of size_of size rows
    unfolding sector_parts
    total-sector sector number =
        total-parts sector (bytes_of first size bytes sector) (sector_rows rows)
        ∙ ap (λ (n : ℕ). total (size_of n) (sector_rows rows))
        (length-bytes_of first sectors size bytes sector given number)

    total-sectors : (from count : ℕ) → first ≤ from → from + count ≤ first + sectors
        → total (part_size size_of)
        (flat_map (sector_parts first size bytes rows) (range_with_len from count))
        ≡ count * pitch_of size_of size rows
    total-sectors from count least most =
        total-each (part_size size_of) (sector_parts first size bytes rows)
        (pitch_of size_of size rows) from count
        (λ sector low high.
        total-sector sector
        (record { least = omega (arith, least, low); most = omega (arith, most, high) }))

    pub length-ring_of : length (ring_of asks cells_of first sectors size bytes rows)
        ≡ ring_size size_of sectors size rows
    unfolding ring_of track_parts
    length-ring_of =
        let lead_in = parts_of first [] rows.lead_in in
        let all = flat_map (sector_parts first size bytes rows) (range_with_len first sectors) in
        let lead_out = parts_of first [] rows.lead_out in
        let whole = length-parts false (lead_in ++ (all ++ lead_out)) in
        let apart = total-append (part_size size_of) lead_in (all ++ lead_out) in
        let rest = total-append (part_size size_of) all lead_out in
        let middle = total-sectors first sectors (omega arith) (omega arith) in
        let one = total-parts first [] rows.lead_in in
        let last = total-parts first [] rows.lead_out in
        omega (arith, whole, apart, rest, middle, one, last)

    length-ring : length (ring_of asks cells_of first sectors size bytes rows)
        ≡ total (part_size size_of) (track_parts first sectors size bytes rows)
    unfolding ring_of
    length-ring = length-parts false (track_parts first sectors size bytes rows)

    -- what stands before a sector's frame, and after it
    before_frame : ℕ → List (TrackRow Row)
    before_frame sector =
        parts_of first [] rows.lead_in
        ++ (flat_map (sector_parts first size bytes rows) (range_with_len first (sector - first))
        ++ parts_of sector (bytes_of first size bytes sector) rows.before)

    after_frame : ℕ → List (TrackRow Row)
    after_frame sector =
        parts_of sector (bytes_of first size bytes sector) rows.after
        ++ (flat_map (sector_parts first size bytes rows)
        (range_with_len (sector + 1) (first + sectors - (sector + 1)))
        ++ parts_of first [] rows.lead_out)

    parts_of-sector : (sector : ℕ) → sector_parts first size bytes rows sector
        ≡ parts_of sector (bytes_of first size bytes sector) rows.before
        ++ (parts_of sector (bytes_of first size bytes sector) rows.frame
        ++ parts_of sector (bytes_of first size bytes sector) rows.after)
    unfolding sector_parts
    parts_of-sector sector =
        let content = bytes_of first size bytes sector in
        parts_of-append sector content rows.before (rows.frame ++ rows.after)
        ∙ ap (λ (parts : List (TrackRow Row)). parts_of sector content rows.before ++ parts)
        (parts_of-append sector content rows.frame rows.after)

    regroup : (l b z f g c o : List (TrackRow Row))
        → l ++ ((b ++ ((z ++ (f ++ g)) ++ c)) ++ o) ≡ (l ++ (b ++ z)) ++ (f ++ (g ++ (c ++ o)))
    regroup l b z f g c o = simp append_assoc

    track-parts : (sector : ℕ) → IsSectorNumber first sectors sector
        → track_parts first sectors size bytes rows
        ≡ before_frame sector
        ++ (parts_of sector (bytes_of first size bytes sector) rows.frame ++ after_frame sector)
    unfolding track_parts before_frame after_frame
    track-parts sector number =
        let content = bytes_of first size bytes sector in
        let lead_in = parts_of first [] rows.lead_in in
        let lead_out = parts_of first [] rows.lead_out in
        let before =
        flat_map (sector_parts first size bytes rows) (range_with_len first (sector - first)) in
        let behind = flat_map (sector_parts first size bytes rows)
        (range_with_len (sector + 1) (first + sectors - (sector + 1))) in
        ap (λ (parts : List (TrackRow Row)). lead_in ++ (parts ++ lead_out))
        (sectors-parts (sector_parts first size bytes rows) first sectors sector (sector - first)
        (first + sectors - (sector + 1))
        (omega (arith, number.least)) (omega (arith, number.least, number.most)))
        ∙ ap
        (λ (parts : List (TrackRow Row)).
        lead_in ++ ((before ++ (parts ++ behind)) ++ lead_out)) (parts_of-sector sector)
        ∙ regroup lead_in before (parts_of sector content rows.before)
        (parts_of sector content rows.frame)
        (parts_of sector content rows.after) behind lead_out

    total-before_frame : (sector : ℕ) → IsSectorNumber first sectors sector
        → total (part_size size_of) (before_frame sector) ≡ place_of size_of first size rows sector
    unfolding before_frame
    total-before_frame sector number =
        let content = bytes_of first size bytes sector in
        let lead_in = parts_of first [] rows.lead_in in
        let all =
        flat_map (sector_parts first size bytes rows) (range_with_len first (sector - first)) in
        let last = parts_of sector content rows.before in
        let apart = total-append (part_size size_of) lead_in (all ++ last) in
        let rest = total-append (part_size size_of) all last in
        let middle = total-sectors first (sector - first) (omega arith)
        (omega (arith, number.least, number.most)) in
        let one = total-parts first [] rows.lead_in in
        let own = total-parts sector content rows.before in
        let long : total (size_of (length content)) rows.before ≡ total (size_of size) rows.before =
        ap (λ (n : ℕ). total (size_of n) rows.before)
        (length-bytes_of first sectors size bytes sector given number) in
        omega (arith, apart, rest, middle, one, own, long)

    -- a sector's frame lies whole in the ring
    pub frame-within : (sector : ℕ) → IsSectorNumber first sectors sector
        → place_of size_of first size rows sector + frame_size size_of size rows
        ≤ ring_size size_of sectors size rows
    frame-within sector number =
        let content = bytes_of first size bytes sector in
        let parts = track-parts sector number in
        let frame = parts_of sector content rows.frame in
        let front =
        total-append (part_size size_of) (before_frame sector) (frame ++ after_frame sector) in
        let rest = total-append (part_size size_of) frame (after_frame sector) in
        let whole : length (ring_of asks cells_of first sectors size bytes rows)
        ≡ total (part_size size_of) (track_parts first sectors size bytes rows) =
        length-ring in
        let same = ap (total (part_size size_of)) parts in
        let one = total-before_frame sector number in
        let own = total-parts sector content rows.frame in
        let long : total (size_of (length content)) rows.frame ≡ total (size_of size) rows.frame =
        ap (λ (n : ℕ). total (size_of n) rows.frame)
        (length-bytes_of first sectors size bytes sector given number) in
        omega (arith, front, rest, whole, same, one, own, long, length-ring_of)

    -- in every stretch of the repeated ring, where a sector's frame lies whole, its rows stand
    pub frame-at : (sector from count place : ℕ) → IsSectorNumber first sectors sector
        → LiesAt (ring_size size_of sectors size rows) (place_of size_of first size rows sector)
        (frame_size size_of size rows) from count place
        → (bit : Bool) × (rest : List Bool) × ((asks && bit) ≡ bit)
        × (drop place (stretch (ring_of asks cells_of first sectors size bytes rows) from count)
        ≡ rows_cells asks cells_of bit sector (bytes_of first size bytes sector) rows.frame ++ rest)
    unfolding ring_of rows_cells
    frame-at sector from count place number lies =
        let content = bytes_of first size bytes sector in
        let ring = ring_of asks cells_of first sectors size bytes rows in
        let frame = parts_of sector content rows.frame in
        let front = coded asks (part_cells cells_of) false (before_frame sector) in
        let bit = bit_after asks (part_cells cells_of) false (before_frame sector) in
        let cells = coded asks (part_cells cells_of) bit frame in
        let last = coded asks (part_cells cells_of) (bit_after asks (part_cells cells_of) bit frame)
        (after_frame sector) in
        let apart : ring ≡ front ++ (cells ++ last) =
        ap (coded asks (part_cells cells_of) false) (track-parts sector number)
        ∙ coded-append asks (part_cells cells_of) false (before_frame sector)
        (frame ++ after_frame sector)
        ∙ ap (λ (some : List Bool). front ++ some)
        (coded-append asks (part_cells cells_of) bit frame (after_frame sector)) in
        let begin = length-parts false (before_frame sector) ∙ total-before_frame sector number in
        let long = length-parts bit frame ∙ total-parts sector content rows.frame
        ∙ ap (λ (n : ℕ). total (size_of n) rows.frame)
        (length-bytes_of first sectors size bytes sector given number) in
        let found =
        frame-stands front cells last ring (ring_size size_of sectors size rows)
        (place_of size_of first size rows sector)
        (frame_size size_of size rows) from count place apart length-ring_of begin long lies in (
          bit,
          found.0,
          bit_after-asked asks (part_cells cells_of) false (before_frame sector) (and-false asks),
          found.1,
        )
      where
        and-false : (a : Bool) → (a && false) ≡ false
        and-false true = refl
        and-false false = refl

  -- how far ones are apart
  module _ (shortest longest most first sectors size : ℕ)
      (follows : (sector : ℕ) (bytes : List ℕ) (row : Row)
      → IsContent first sectors size sector bytes
      → MayFollow shortest longest most asks (λ before. cells_of before sector bytes row)) where
    pub follow-rows : (sector : ℕ) (bytes : List ℕ) (rows : List Row)
        → IsContent first sectors size sector bytes
        → MayFollowAll shortest longest most asks (part_cells cells_of) (parts_of sector bytes rows)
    follow-rows sector bytes [] content =
        follow-none shortest longest most asks (part_cells cells_of)
    follow-rows sector bytes (row ∷ rows) content =
        let part : TrackRow Row = record { sector = sector; bytes = bytes; row = row } in
        follow-append shortest longest most asks (part_cells cells_of) (part ∷ [])
        (parts_of sector bytes rows)
        (follow-one shortest longest most asks (part_cells cells_of) part
        (follows sector bytes row content))
        (follow-rows sector bytes rows content)

    -- so many of the first cells of rows are unbroken, whatever comes after them
    pub rows-unbroken : (bit : Bool) (sector : ℕ) (bytes : List ℕ) (rows : List Row)
        (rest : List Bool) (count : ℕ)
        → (asks && bit) ≡ bit
        → 1 ≤ most → 0 < longest → longest ≤ 8 → IsContent first sectors size sector bytes
        → count ≤ total (size_of (length bytes)) rows
        → Unbroken (rows_cells asks cells_of bit sector bytes rows ++ rest) 0 count
    unfolding rows_cells
    rows-unbroken bit sector bytes rows rest count asked zeros some few content within =
        let long = length-parts bit (parts_of sector bytes rows) ∙ total-parts sector bytes rows in
        follow-unbroken shortest longest most asks (part_cells cells_of) bit
        (parts_of sector bytes rows) rest count asked zeros some few
        (follow-rows sector bytes rows content) (omega (arith, long, within))

    follow-track : (rows : Rows Row) (bytes : List ℕ) → 1 ≤ sectors → AreSectors sectors size bytes
        → MayFollowAll shortest longest most asks (part_cells cells_of)
        (track_parts first sectors size bytes rows)
    unfolding track_parts sector_parts
    follow-track rows bytes sector given =
        let none = content_none first sectors size sector in
        let lead_in = parts_of first [] rows.lead_in in
        let all = flat_map (sector_parts first size bytes rows) (range_with_len first sectors) in
        let lead_out = parts_of first [] rows.lead_out in
        follow-append shortest longest most asks (part_cells cells_of) lead_in (all ++ lead_out)
        (follow-rows first [] rows.lead_in none)
        (follow-append shortest longest most asks (part_cells cells_of) all lead_out
        (follow-each shortest longest most asks (part_cells cells_of)
        (sector_parts first size bytes rows) first sectors
        (λ n least high.
        let number : IsSectorNumber first sectors n = record { least = least; most = high } in
        follow-rows n (bytes_of first size bytes n) (sector_rows rows)
        (content_of first sectors size bytes n given number)))
        (follow-rows first [] rows.lead_out none))

    pub ring-unbroken : (rows : Rows Row) (bytes : List ℕ) (from to : ℕ) → 0 < longest → longest ≤ 8
        → 1 ≤ most → 1 ≤ sectors
        → AreSectors sectors size bytes
        → Unbroken (ring_of asks cells_of first sectors size bytes rows) from to
    unfolding ring_of
    ring-unbroken rows bytes from to some few zeros sector given =
        let parts = track_parts first sectors size bytes rows in
        let spaced = (follow-track rows bytes sector given 1 zeros).0 in
        spaced-unbroken shortest longest 1 (coded asks (part_cells cells_of) false parts) from to
        some few
        (subst
        (λ (b : Bool).
        is_spaced shortest longest 1 (coded asks (part_cells cells_of) b parts) ≡ true)
        (and-false asks) spaced)
      where
        and-false : (a : Bool) → (a && false) ≡ false
        and-false true = refl
        and-false false = refl

    pub ring-spaced : (rows : Rows Row) (bytes : List ℕ) → 0 < longest → 1 ≤ most → 1 ≤ sectors
        → longest ≤ ring_size size_of sectors size rows
        → AreSectors sectors size bytes
        → ((before : Bool)
        → (asks && last_of before (rows_cells asks cells_of before first [] rows.lead_out))
        ≡ false)
        → IsSpaced shortest longest (ring_of asks cells_of first sectors size bytes rows)
    unfolding ring_of track_parts rows_cells
    ring-spaced rows bytes some zeros sector enough given ends =
        let lead_in = parts_of first [] rows.lead_in in
        let all = flat_map (sector_parts first size bytes rows) (range_with_len first sectors) in
        let lead_out = parts_of first [] rows.lead_out in
        let parts = lead_in ++ (all ++ lead_out) in
        let front = lead_in ++ all in
        let bit = bit_after asks (part_cells cells_of) false front in
        let first_cells = coded asks (part_cells cells_of) false front in
        let last_cells = coded asks (part_cells cells_of) bit lead_out in
        let apart : coded asks (part_cells cells_of) false parts ≡ first_cells ++ last_cells =
        ap (coded asks (part_cells cells_of) false) (sym (append_assoc lead_in all lead_out))
        ∙ coded-append asks (part_cells cells_of) false front lead_out in
        let last : (asks && last_of false (coded asks (part_cells cells_of) false parts)) ≡ false =
        ap (λ (cells : List Bool). asks && last_of false cells) apart
        ∙ ap (λ (cell : Bool). asks && cell) (last_of-append false first_cells last_cells)
        ∙ last-zero asks (last_of false first_cells) bit last_cells
        (bit_after-last asks (part_cells cells_of) false front (and-false asks)) (ends bit) in
        let long = length-ring_of first sectors size rows bytes given.whole in
        follow-ring shortest longest most asks (part_cells cells_of) parts some zeros
        (omega (arith, long, enough))
        (follow-track rows bytes sector given) last
      where
        and-false : (a : Bool) → (a && false) ≡ false
        and-false true = refl
        and-false false = refl

        last-zero : (a last bit : Bool) (cells : List Bool) → bit ≡ (a && last)
            → (a && last_of bit cells) ≡ false → (a && last_of last cells) ≡ false
        last-zero true last bit cells is zero = ap (λ (b : Bool). last_of b cells) (sym is) ∙ zero
        last-zero false last bit cells is zero = refl
