-- The file that is written of an image has these bytes.
use Rattle.std.specs.Prelude.{◌≡◌, ◌<◌, ◌≤◌, ◌==◌, ◌&&◌, ◌+◌, ◌-◌, ◌*◌, ◌/◌, ◌%◌, ℕ, zero, suc, Bool, false, List, ◌++◌, drop, flat_map, get_or, length, map, nat_lt, refl, replicate, take, if◌then◌else◌}
use Rattle.std.specs.List.{range_with_len}
use Rattle.std.proofs.Common.{arith, ap, sym, ◌∙◌, div-one, length-append}
use Rattle.std.proofs.lemmas.Bool.{lt-ltb}
use Rattle.std.proofs.lemmas.List.{get_or-append-add, get_or-drop, get_or-replicate, get_or-take, get_or_append_left, get_or_default, length-drop, length-replicate, length-take-le, same_lists}
use Rattle.std.proofs.lemmas.Bool.Decides.{nat_tests}
use Rattle.std.proofs.lemmas.List.FromFn.{get_or-map-range_with_len, length-map-range_with_len}
use Rattle.byteorder.specs.Endian.{little_bytes}
use Rattle.byteorder.specs.Numbers.{length-bytes_low_first}
use Rattle.cell_bits.specs.Word.{number_of, word}
use Rattle.flux_engine.specs.Rings.{ring_of}
use Rattle.g64_image.specs.Layout.{MOST_HALF_TRACKS, TRACK_SIZE, bytes_of_cells, front, g64_file, header, image_record, offset_entry, records, speed_entry, speed_of, table, track_record}
use Rattle.law_stated_files.specs.Written.{FIRST_BYTES, IsDiskFile, IsNoTrack, bit, byte_of, ring_byte, speed}
use Rattle.sector_images.specs.Places.{tracks}
use Rattle.sector_images.specs.declared.format.Format.{Format}
use Rattle.track_rings.specs.lemmas.SectorParts.{sectors-length, sectors-parts}

-- one of several pieces that are equally long
block_at : (f : ℕ → List ℕ) (size count k j : ℕ) → ((i : ℕ) → i < count → length (f i) ≡ size) → k < count → j < size
    → get_or (flat_map f (range_with_len 0 count)) (k * size + j) 0 ≡ get_or (f k) j 0
block_at f size count k j each low inside =
    let behind : ℕ = count - suc k in
    let before : List ℕ = flat_map f (range_with_len 0 k) in
    let after : List ℕ = flat_map f (range_with_len (k + 1) behind) in
    let split : flat_map f (range_with_len 0 count) ≡ before ++ (f k ++ after) = sectors-parts f 0 count k k behind (omega arith) (omega (arith, low)) in
    let long : length before ≡ k * size = sectors-length f size 0 k (λ i least most. each i (omega (arith, most, low))) in
    let size_k = each k low in
    ap (λ (xs : List ℕ). get_or xs (k * size + j) 0) split
    ∙ ap (λ (m : ℕ). get_or (before ++ (f k ++ after)) (m + j) 0) (sym long)
    ∙ get_or-append-add before (f k ++ after) j 0
    ∙ get_or_append_left (f k) after 0 j (omega (arith, inside, size_k))

-- the bytes of a number
low_byte : (i number : ℕ) → i < 4 → get_or (little_bytes 4 number) i 0 ≡ byte_of i number
low_byte zero number low = ap (λ (m : ℕ). m % 256) (sym (div-one number))
low_byte (suc zero) number low = refl
low_byte (suc (suc zero)) number low = refl
low_byte (suc (suc (suc zero))) number low = refl
low_byte (suc (suc (suc (suc i)))) number low = absurd (omega (arith, low))

no_byte : (i : ℕ) → i < 4 → byte_of i 0 ≡ 0
no_byte zero low = refl
no_byte (suc zero) low = refl
no_byte (suc (suc zero)) low = refl
no_byte (suc (suc (suc zero))) low = refl
no_byte (suc (suc (suc (suc i)))) low = absurd (omega (arith, low))

-- a table's entries
entry_at : (entry : ℕ → ℕ) (half i : ℕ) → half < 84 → i < 4 → get_or (table entry) (half * 4 + i) 0 ≡ byte_of i (entry half)
entry_at entry half i few low =
    block_at (λ (h : ℕ). little_bytes 4 (entry h)) 4 MOST_HALF_TRACKS half i (λ h most. length-bytes_low_first 0 4 (entry h)) few low ∙ low_byte i (entry half) low

table_size : (entry : ℕ → ℕ) → length (table entry) ≡ 336
table_size entry = sectors-length (λ (half : ℕ). little_bytes 4 (entry half)) 4 0 MOST_HALF_TRACKS (λ half least most. length-bytes_low_first 0 4 (entry half))

module _ (format : Format) (image : List ℕ) where
  abbrev n : ℕ
  n = length (tracks format)

  abbrev file : List ℕ
  file = g64_file format image

  abbrev offsets : List ℕ
  offsets = table (offset_entry format)

  abbrev speeds : List ℕ
  speeds = table (speed_entry format)

  front_size : length (front format) ≡ 684
  unfolding front
  front_size =
      let head : length header ≡ 12 = refl in
      omega (arith, head, length-append header (offsets ++ speeds), length-append offsets speeds, table_size (offset_entry format), table_size (speed_entry format))

  in_front : (p : ℕ) → p < 684 → get_or file p 0 ≡ get_or (front format) p 0
  unfolding g64_file
  in_front p low = get_or_append_left (front format) (records format image) 0 p (omega (arith, low, front_size))

  head_at : (i : ℕ) → i < 12 → get_or file i 0 ≡ get_or FIRST_BYTES i 0
  unfolding front
  head_at i low =
      let head : length header ≡ 12 = refl in
      in_front i (omega (arith, low)) ∙ get_or_append_left header (offsets ++ speeds) 0 i (omega (arith, low, head))

  offset_at : (q : ℕ) → q < 336 → get_or file (12 + q) 0 ≡ get_or offsets q 0
  unfolding front
  offset_at q low =
      in_front (12 + q) (omega (arith, low)) ∙ get_or-append-add header (offsets ++ speeds) q 0
      ∙ get_or_append_left offsets speeds 0 q (let size = table_size (offset_entry format) in omega (arith, low, size))

  speed_at : (q : ℕ) → q < 336 → get_or file (348 + q) 0 ≡ get_or speeds q 0
  unfolding front
  speed_at q low =
      let at : 348 + q ≡ 12 + (336 + q) = omega arith in
      let size : length offsets ≡ 336 = table_size (offset_entry format) in
      ap (λ (p : ℕ). get_or file p 0) at ∙ in_front (12 + (336 + q)) (omega (arith, low)) ∙ get_or-append-add header (offsets ++ speeds) (336 + q) 0
      ∙ ap (λ (m : ℕ). get_or (offsets ++ speeds) (m + q) 0) (sym size) ∙ get_or-append-add offsets speeds q 0

  -- entries of tracks, and of other half tracks
  of_track : (entry : ℕ → ℕ) (k : ℕ) → k < n → (if (2 * k % 2 == 0) && nat_lt (2 * k / 2) n then entry (2 * k / 2) else 0) ≡ entry k
  of_track entry k low =
      let even : 2 * k % 2 ≡ 0 = omega arith in
      let halved : 2 * k / 2 ≡ k = omega arith in
      ap (λ (r : ℕ). if (r == 0) && nat_lt (2 * k / 2) n then entry (2 * k / 2) else 0) even
      ∙ ap (λ (h : ℕ). if nat_lt h n then entry h else 0) halved
      ∙ ap (λ (b : Bool). if b then entry k else 0) (lt-ltb k n low)

  of_none : (entry : ℕ → ℕ) (half : ℕ) → IsNoTrack n half → (if (half % 2 == 0) && nat_lt (half / 2) n then entry (half / 2) else 0) ≡ 0
  of_none entry half none = grind (arith, nat_tests, none)

  offsets_are : (k i : ℕ) → k < n → 2 * k < 84 → i < 4 → get_or file (12 + 8 * k + i) 0 ≡ byte_of i (684 + 7930 * k)
  offsets_are k i known few low =
      let at : 12 + 8 * k + i ≡ 12 + (2 * k * 4 + i) = omega arith in
      ap (λ (p : ℕ). get_or file p 0) at ∙ offset_at (2 * k * 4 + i) (omega (arith, few, low)) ∙ entry_at (offset_entry format) (2 * k) i few low
      ∙ ap (byte_of i) (of_track (λ (k : ℕ). 684 + 7930 * k) k known)

  no_offsets_are : (half i : ℕ) → half < 84 → i < 4 → IsNoTrack n half → get_or file (12 + 4 * half + i) 0 ≡ 0
  no_offsets_are half i few low none =
      let at : 12 + 4 * half + i ≡ 12 + (half * 4 + i) = omega arith in
      ap (λ (p : ℕ). get_or file p 0) at ∙ offset_at (half * 4 + i) (omega (arith, few, low)) ∙ entry_at (offset_entry format) half i few low
      ∙ ap (byte_of i) (of_none (λ (k : ℕ). 684 + 7930 * k) half none) ∙ no_byte i low

  speeds_are : (k i : ℕ) → k < n → 2 * k < 84 → i < 4 → get_or file (348 + 8 * k + i) 0 ≡ byte_of i (speed_of k)
  speeds_are k i known few low =
      let at : 348 + 8 * k + i ≡ 348 + (2 * k * 4 + i) = omega arith in
      ap (λ (p : ℕ). get_or file p 0) at ∙ speed_at (2 * k * 4 + i) (omega (arith, few, low)) ∙ entry_at (speed_entry format) (2 * k) i few low
      ∙ ap (byte_of i) (of_track speed_of k known)

  no_speeds_are : (half i : ℕ) → half < 84 → i < 4 → IsNoTrack n half → get_or file (348 + 4 * half + i) 0 ≡ 0
  no_speeds_are half i few low none =
      let at : 348 + 4 * half + i ≡ 348 + (half * 4 + i) = omega arith in
      ap (λ (p : ℕ). get_or file p 0) at ∙ speed_at (half * 4 + i) (omega (arith, few, low)) ∙ entry_at (speed_entry format) half i few low
      ∙ ap (byte_of i) (of_none speed_of half none) ∙ no_byte i low

  module _ (short : (k : ℕ) → k < n → length (ring_of format image k) / 8 ≤ 7928) (few : n ≤ 42) where
    abbrev size : ℕ → ℕ
    size k = length (ring_of format image k) / 8

    abbrev padding : ℕ → List ℕ
    padding k = replicate (TRACK_SIZE - size k) 0xFF

    abbrev bytes : ℕ → List ℕ
    bytes k = bytes_of_cells (ring_of format image k)

    bytes_size : (k : ℕ) → length (bytes k) ≡ size k
    unfolding bytes_of_cells
    bytes_size k = length-map-range_with_len (λ (i : ℕ). word (ring_of format image k) (8 * i) 8) 0 (size k)

    record_size : (k : ℕ) → k < n → length (image_record format image k) ≡ 7930
    unfolding track_record
    record_size k low =
        let fits = short k low in
        let many = bytes_size k in
        let head = length-bytes_low_first 0 2 (size k) in
        omega (
          arith,
          fits,
          head,
          many,
          length-append (little_bytes 2 (size k)) (bytes k ++ padding k),
          length-append (bytes k) (padding k),
          length-replicate {A = ℕ} (TRACK_SIZE - size k) 0xFF,
        )

    records_size : length (records format image) ≡ n * 7930
    records_size = sectors-length (image_record format image) 7930 0 n (λ k least most. record_size k (omega (arith, most)))

    pub file_size : length file ≡ 684 + 7930 * n
    unfolding g64_file
    file_size = omega (arith, front_size, records_size, length-append (front format) (records format image))

    record_at : (k j : ℕ) → k < n → j < 7930 → get_or file (684 + 7930 * k + j) 0 ≡ get_or (image_record format image k) j 0
    unfolding g64_file
    record_at k j known low =
        let at : 684 + 7930 * k + j ≡ 684 + (k * 7930 + j) = omega arith in
        ap (λ (p : ℕ). get_or file p 0) at
        ∙ ap (λ (m : ℕ). get_or file (m + (k * 7930 + j)) 0) (sym front_size)
        ∙ get_or-append-add (front format) (records format image) (k * 7930 + j) 0
        ∙ block_at (image_record format image) 7930 n k j record_size known low

    low_size_is : (k : ℕ) → k < n → get_or file (684 + 7930 * k) 0 ≡ size k % 256
    unfolding track_record
    low_size_is k known = (let at : 684 + 7930 * k ≡ 684 + 7930 * k + 0 = omega arith in ap (λ (p : ℕ). get_or file p 0) at ∙ record_at k 0 known (omega arith))

    high_size_is : (k : ℕ) → k < n → get_or file (685 + 7930 * k) 0 ≡ size k / 256
    unfolding track_record
    high_size_is k known =
        let at : 685 + 7930 * k ≡ 684 + 7930 * k + 1 = omega arith in
        let small : size k / 256 % 256 ≡ size k / 256 = (let fits = short k known in omega (arith, fits)) in
        ap (λ (p : ℕ). get_or file p 0) at ∙ record_at k 1 known (omega arith) ∙ small

    behind_size : (k i : ℕ) → k < n → i < 7928 → get_or file (686 + 7930 * k + i) 0 ≡ get_or (bytes k ++ padding k) i 0
    unfolding track_record
    behind_size k i known low =
        let at : 686 + 7930 * k + i ≡ 684 + 7930 * k + (2 + i) = omega arith in
        ap (λ (p : ℕ). get_or file p 0) at ∙ record_at k (2 + i) known (omega (arith, low)) ∙ get_or-append-add (little_bytes 2 (size k)) (bytes k ++ padding k) i 0

    filled_is : (k i : ℕ) → k < n → size k ≤ i → i < 7928 → get_or file (686 + 7930 * k + i) 0 ≡ 255
    filled_is k i known least most =
        let many = bytes_size k in
        let at : length (bytes k) + (i - size k) ≡ i = omega (arith, many, least) in
        behind_size k i known most ∙ ap (λ (p : ℕ). get_or (bytes k ++ padding k) p 0) (sym at) ∙ get_or-append-add (bytes k) (padding k) (i - size k) 0
        ∙ get_or-replicate (TRACK_SIZE - size k) (i - size k) 0xFF 0 (omega (arith, least, most))

    -- eight cells as a byte
    eight : (ring : List Bool) (m : ℕ) → m + 8 ≤ length ring → take 8 (drop m ring) ≡ map (λ (j : ℕ). get_or ring (m + j) false) (range_with_len 0 8)
    eight ring m fits =
        let one : length (take 8 (drop m ring)) ≡ 8 = length-take-le 8 (drop m ring) (omega (arith, fits, length-drop m ring)) in
        let two : length (map (λ (j : ℕ). get_or ring (m + j) false) (range_with_len 0 8)) ≡ 8 = refl in
        same_lists (take 8 (drop m ring)) (map (λ (j : ℕ). get_or ring (m + j) false) (range_with_len 0 8)) (omega (arith, one, two))
        (λ j d below.
        let low : j < 8 = omega (arith, below, one) in
        get_or_default (take 8 (drop m ring)) j d false below ∙ get_or-take 8 (drop m ring) j false low ∙ get_or-drop m ring j false
        ∙ sym (get_or-map-range_with_len (λ (j : ℕ). get_or ring (m + j) false) 0 8 j j d low (omega arith)))

    byte_is : (ring : List Bool) (i : ℕ) → 8 * i + 8 ≤ length ring → word ring (8 * i) 8 ≡ ring_byte ring i
    unfolding word number_of
    byte_is ring i fits =
        let zero_on : 8 * i + 0 ≡ 8 * i = omega arith in
        ap number_of (eight ring (8 * i) fits)
        ∙ sum_of (bit ring (8 * i + 0)) (bit ring (8 * i + 1)) (bit ring (8 * i + 2)) (bit ring (8 * i + 3)) (bit ring (8 * i + 4)) (bit ring (8 * i + 5)) (bit ring (8 * i + 6)) (bit ring (8 * i + 7))
        ∙ ap (λ (p : ℕ). 128 * bit ring p + 64 * bit ring (8 * i + 1) + 32 * bit ring (8 * i + 2) + 16 * bit ring (8 * i + 3) + 8 * bit ring (8 * i + 4)
        + 4 * bit ring (8 * i + 5) + 2 * bit ring (8 * i + 6) + bit ring (8 * i + 7)) zero_on
      where
        sum_of : (a b c d e f g h : ℕ) → a * 128 + (b * 64 + (c * 32 + (d * 16 + (e * 8 + (f * 4 + (g * 2 + (h * 1 + 0)))))))
            ≡ 128 * a + 64 * b + 32 * c + 16 * d + 8 * e + 4 * f + 2 * g + h
        sum_of a b c d e f g h = omega arith

    cells_are : (k i : ℕ) → k < n → i < size k → get_or file (686 + 7930 * k + i) 0 ≡ ring_byte (ring_of format image k) i
    unfolding bytes_of_cells
    cells_are k i known low =
        let fits = short k known in
        let many = bytes_size k in
        behind_size k i known (omega (arith, low, fits)) ∙ get_or_append_left (bytes k) (padding k) 0 i (omega (arith, low, many))
        ∙ get_or-map-range_with_len (λ (i : ℕ). word (ring_of format image k) (8 * i) 8) 0 (size k) i i 0 low (omega arith)
        ∙ byte_is (ring_of format image k) i (omega (arith, low))

    speed_is : (k : ℕ) → speed_of k ≡ speed k
    speed_is k = grind (arith, nat_tests)

    pub written : IsDiskFile format image file
    written = record {
      size = file_size;
      first = head_at;
      offsets = λ k i known low. offsets_are k i known (omega (arith, known, few)) low;
      no_offsets = no_offsets_are;
      speeds = λ k i known low. speeds_are k i known (omega (arith, known, few)) low ∙ ap (byte_of i) (speed_is k);
      no_speeds = no_speeds_are;
      low_size = low_size_is;
      high_size = high_size_is;
      cells = cells_are;
      filled = filled_is;
    }
