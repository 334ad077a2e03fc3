-- A written file has of each track the cells of its ring.
use Rattle.std.specs.Prelude.{◌≡◌, ◌≤◌, ◌<◌, ◌==◌, ◌&&◌, ℕ, suc, ◌+◌, ◌*◌, ◌/◌, ◌%◌, ◌-◌, Bool, false, nat_lt, if◌then◌else◌, List, [], ◌++◌, drop, flat_map, length, replicate, take, refl}
use Rattle.std.specs.List.{range_with_len}
use Rattle.std.proofs.Common.{ap, sym, subst, ◌∙◌, arith, append_assoc, append-nil, inl, inr, length-append}
use Rattle.std.proofs.lemmas.Bool.{cases_lt, lt-ltb, ne_eqb}
use Rattle.std.proofs.lemmas.List.{drop-drop, length-replicate}
use Rattle.std.proofs.lemmas.List.FromFn.{length-map-range_with_len}
use Rattle.std.proofs.Math.Seq.{drop-append-add, drop-append_seam}
use Rattle.byteorder.specs.Endian.{little_bytes, little_number}
use Rattle.byteorder.specs.Numbers.{length-bytes_low_first, little_number-reads_back}
use Rattle.cell_bits.specs.Word.{word}
use Rattle.flux_engine.specs.Rings.{ring_cells_of, ring_of}
use Rattle.flux_engine.specs.Recordings.{track_at}
use Rattle.sector_images.specs.Formats.{commodore_zone}
use Rattle.sector_images.specs.Places.{tracks}
use Rattle.sector_images.specs.declared.format.Format.{Format}
use Rattle.sector_images.specs.declared.format.Format.TheVariants.{C1541, C1541Forty}
use Rattle.track_rings.specs.lemmas.SectorParts.{sectors-length, sectors-parts}
use Rattle.g64_image.specs.Layout.{HEADER_SIZE, IsCommodore, MOST_HALF_TRACKS, TRACK_SIZE, bytes_of_cells, cells_at, cells_of_bytes, front, g64_file, half_track, half_tracks_of, header, image_record, length_at, offset_entry, offset_of, records, speed_entry, table, track_cells, track_record, written_place}
use Rattle.g64_image.proofs.Bytes.{cells-back}
use Rattle.g64_image.proofs.Sound.{take-front}
use Rattle.g64_image.proofs.Tables.{short_ring}

-- the rings of the 1541 have whole bytes
whole_zone : (cylinder : ℕ) → (commodore_zone cylinder).ring_cells ≡ 8 * ((commodore_zone cylinder).ring_cells / 8)
whole_zone cylinder =
    elim (cases_lt (cylinder + 1) 18) [
      | inl low ↦ grind (arith)
      | inr high ↦ grind (arith)
    ]

whole_ring : (format : Format) → IsCommodore format → (number : ℕ) → ring_cells_of format number ≡ 8 * (ring_cells_of format number / 8)
whole_ring format (inl is) number =
    subst (λ (f : Format). ring_cells_of f number ≡ 8 * (ring_cells_of f number / 8)) (sym is) (whole_zone (track_at C1541 number).cylinder)
whole_ring format (inr is) number =
    subst (λ (f : Format). ring_cells_of f number ≡ 8 * (ring_cells_of f number / 8)) (sym is) (whole_zone (track_at C1541Forty number).cylinder)

-- and its disks have at most 40 tracks
pub few_tracks : (format : Format) → IsCommodore format → length (tracks format) ≤ 40
few_tracks format (inl is) = let few : length (tracks C1541) ≡ 35 = refl in subst (λ (f : Format). length (tracks f) ≤ 40) (sym is) (omega (arith, few))
few_tracks format (inr is) = let few : length (tracks C1541Forty) ≡ 40 = refl in subst (λ (f : Format). length (tracks f) ≤ 40) (sym is) (omega (arith, few))

-- one of several pieces that are equally long, where they and a rest are written one after another
pub piece-at : (f : ℕ → List ℕ) (size count k : ℕ) (rest : List ℕ) → ((j : ℕ) → j < count → length (f j) ≡ size) → k < count
    → (later : List ℕ) × (drop (k * size) (flat_map f (range_with_len 0 count) ++ rest) ≡ f k ++ later)
piece-at f size count k rest each low =
    let behind : ℕ = count - suc k in
    let before : List ℕ = flat_map f (range_with_len 0 k) in
    let after : List ℕ = flat_map f (range_with_len (k + 1) behind) in
    let split : flat_map f (range_with_len 0 count) ≡ before ++ (f k ++ after) =
    sectors-parts f 0 count k k behind (omega arith) (omega (arith, low)) in
    let long : length before ≡ k * size = sectors-length f size 0 k (λ j least most. each j (omega (arith, most, low))) in (
      after ++ rest,
      ap (λ (xs : List ℕ). drop (k * size) (xs ++ rest)) split
          ∙ ap (drop (k * size)) (append_assoc before (f k ++ after) rest ∙ ap (λ (xs : List ℕ). before ++ xs) (append_assoc (f k) after rest))
          ∙ ap (λ (n : ℕ). drop n (before ++ (f k ++ (after ++ rest)))) (sym long)
          ∙ drop-append_seam before (f k ++ (after ++ rest)),
    )

length-table : (entry : ℕ → ℕ) → length (table entry) ≡ 336
length-table entry = sectors-length (λ (half : ℕ). little_bytes 4 (entry half)) 4 0 MOST_HALF_TRACKS (λ half least most. length-bytes_low_first 0 4 (entry half))

entry-at : (entry : ℕ → ℕ) (half : ℕ) (rest : List ℕ) → half < MOST_HALF_TRACKS → entry half < 4294967296
    → little_number 4 (drop (4 * half) (table entry ++ rest)) ≡ entry half
entry-at entry half rest low fits =
    let at : 4 * half ≡ half * 4 = omega arith in
    let piece = piece-at (λ (h : ℕ). little_bytes 4 (entry h)) 4 MOST_HALF_TRACKS half rest (λ h most. length-bytes_low_first 0 4 (entry h)) low in
    ap (λ (n : ℕ). little_number 4 (drop n (table entry ++ rest))) at ∙ ap (little_number 4) piece.1
    ∙ little_number-reads_back 4 (entry half) piece.0 fits

pub length-front : (format : Format) → length (front format) ≡ 684
unfolding front
length-front format =
    let offsets : List ℕ = table (offset_entry format) in
    let speeds : List ℕ = table (speed_entry format) in
    let head : length header ≡ 12 = refl in
    omega (arith, head, length-append header (offsets ++ speeds), length-append offsets speeds, length-table (offset_entry format), length-table (speed_entry format))

length-record : (ring : List Bool) → length ring / 8 ≤ TRACK_SIZE → length (track_record ring) ≡ 7930
unfolding track_record bytes_of_cells
length-record ring short =
    let size : ℕ = length ring / 8 in
    let bytes : List ℕ = bytes_of_cells ring in
    let padding : List ℕ = replicate (TRACK_SIZE - size) 0xFF in
    let head = length-bytes_low_first 0 2 size in
    let many : length bytes ≡ size = length-map-range_with_len (λ (i : ℕ). word ring (8 * i) 8) 0 size in
    omega (arith, short, head, many, length-append (little_bytes 2 size) (bytes ++ padding), length-append bytes padding, length-replicate {A = ℕ} (TRACK_SIZE - size) 0xFF)

pub front-tracks : (format : Format) (image : List ℕ) → half_tracks_of (g64_file format image) ≡ MOST_HALF_TRACKS
unfolding g64_file front
front-tracks format image = refl

-- what a written file has in its table of offsets for one of its tracks
track-entry : (format : Format) (k : ℕ) → k < length (tracks format) → offset_entry format (half_track k) ≡ written_place k
track-entry format k low =
    let even : 2 * k % 2 ≡ 0 = omega arith in
    let halved : 2 * k / 2 ≡ k = omega arith in
    ap (λ (r : ℕ). if (r == 0) && nat_lt (2 * k / 2) (length (tracks format)) then written_place (2 * k / 2) else 0) even
    ∙ ap (λ (h : ℕ). if nat_lt h (length (tracks format)) then written_place h else 0) halved
    ∙ ap (λ (b : Bool). if b then written_place k else 0) (lt-ltb k (length (tracks format)) low)

table-offset : (format : Format) (image : List ℕ) (half : ℕ) → half < MOST_HALF_TRACKS → offset_entry format half < 4294967296
    → little_number 4 (drop (HEADER_SIZE + 4 * half) (g64_file format image)) ≡ offset_entry format half
unfolding g64_file front
table-offset format image half low fits =
    let offsets : List ℕ = table (offset_entry format) in
    let speeds : List ℕ = table (speed_entry format) in
    let split : g64_file format image ≡ header ++ (offsets ++ (speeds ++ records format image)) =
    append_assoc header (offsets ++ speeds) (records format image)
    ∙ ap (λ (xs : List ℕ). header ++ xs) (append_assoc offsets speeds (records format image)) in
    let past : drop (HEADER_SIZE + 4 * half) (g64_file format image) ≡ drop (4 * half) (offsets ++ (speeds ++ records format image)) =
    ap (drop (HEADER_SIZE + 4 * half)) split ∙ drop-append-add header (offsets ++ (speeds ++ records format image)) (4 * half) in
    ap (little_number 4) past ∙ entry-at (offset_entry format) half (speeds ++ records format image) low fits

module _ (format : Format) (image : List ℕ) (commodore : IsCommodore format)
    (cells : (k : ℕ) → k < length (tracks format) → length (ring_of format image k) ≡ ring_cells_of format k) where
  abbrev file : List ℕ
  file = g64_file format image

  abbrev count : ℕ
  count = length (tracks format)

  -- the bytes of a track
  abbrev bytes_in : ℕ → ℕ
  bytes_in k = length (ring_of format image k) / 8

  pub short : (k : ℕ) → k < count → bytes_in k ≤ 7686
  short k low = let few = short_ring format commodore k in omega (arith, cells k low, few)

  each_record : (k : ℕ) → k < count → length (image_record format image k) ≡ 7930
  each_record k low = let few = short k low in length-record (ring_of format image k) (omega (arith, few))

  pub length-file : length file ≡ 684 + count * 7930
  unfolding g64_file
  length-file =
      omega (
        arith,
        length-append (front format) (records format image),
        length-front format,
        sectors-length (image_record format image) 7930 0 count (λ k least most. each_record k (omega (arith, most))),
      )

  pub offset-is : (k : ℕ) → k < count → offset_of file k ≡ written_place k
  offset-is k low =
      let few = few_tracks format commodore in
      let here : half_track k < MOST_HALF_TRACKS = omega (arith, low, few) in
      let entry = track-entry format k low in
      let at : little_number 4 (drop (HEADER_SIZE + 4 * half_track k) file) ≡ offset_entry format (half_track k) =
      table-offset format image (half_track k) here (omega (arith, entry, low, few)) in
      ap (λ (n : ℕ). if nat_lt (half_track k) n then little_number 4 (drop (HEADER_SIZE + 4 * half_track k) file) else 0) (front-tracks format image)
      ∙ ap (λ (b : Bool). if b then little_number 4 (drop (HEADER_SIZE + 4 * half_track k) file) else 0) (lt-ltb (half_track k) MOST_HALF_TRACKS here)
      ∙ at ∙ entry

  -- a track's record stands at its place
  record-at : (k : ℕ) → k < count → (later : List ℕ) × (drop (written_place k) file ≡ image_record format image k ++ later)
  unfolding g64_file
  record-at k low =
      let piece = piece-at (image_record format image) 7930 count k [] each_record low in
      let place : written_place k ≡ length (front format) + k * 7930 = omega (arith, length-front format) in (
        piece.0,
        ap (λ (n : ℕ). drop n (front format ++ records format image)) place
            ∙ drop-append-add (front format) (records format image) (k * 7930)
            ∙ ap (drop (k * 7930)) (sym (append-nil (records format image)))
            ∙ piece.1,
      )

  -- with its length
  pub length-is : (k : ℕ) → k < count → length_at file (written_place k) ≡ bytes_in k
  unfolding track_record
  length-is k low =
      let found = record-at k low in
      let size : ℕ = bytes_in k in
      let few = short k low in
      let bytes : List ℕ = bytes_of_cells (ring_of format image k) ++ replicate (TRACK_SIZE - size) 0xFF in
      ap (little_number 2) (found.1 ∙ append_assoc (little_bytes 2 size) bytes found.0)
      ∙ little_number-reads_back 2 size (bytes ++ found.0) (omega (arith, few))

  -- and after it its bytes
  bytes-are : (k : ℕ) → k < count → take (bytes_in k) (drop (written_place k + 2) file) ≡ bytes_of_cells (ring_of format image k)
  unfolding track_record bytes_of_cells
  bytes-are k low =
      let found = record-at k low in
      let size : ℕ = bytes_in k in
      let bytes : List ℕ = bytes_of_cells (ring_of format image k) in
      let padding : List ℕ = replicate (TRACK_SIZE - size) 0xFF in
      let many : length bytes ≡ size = length-map-range_with_len (λ (i : ℕ). word (ring_of format image k) (8 * i) 8) 0 size in
      let head : length (little_bytes 2 size) ≡ 2 = length-bytes_low_first 0 2 size in
      let split : drop (written_place k) file ≡ little_bytes 2 size ++ (bytes ++ (padding ++ found.0)) =
      found.1 ∙ append_assoc (little_bytes 2 size) (bytes ++ padding) found.0
      ∙ ap (λ (xs : List ℕ). little_bytes 2 size ++ xs) (append_assoc bytes padding found.0) in
      ap (take size) (sym (drop-drop 2 (written_place k) file) ∙ ap (drop 2) split
      ∙ ap (λ (n : ℕ). drop n (little_bytes 2 size ++ (bytes ++ (padding ++ found.0)))) (sym head)
      ∙ drop-append_seam (little_bytes 2 size) (bytes ++ (padding ++ found.0)))
      ∙ take-front size bytes (padding ++ found.0) many

  pub some_place : (k : ℕ) → (written_place k == 0) ≡ false
  some_place k = ne_eqb (written_place k) 0 (λ same. omega (arith, same))

  -- so its cells are those of the ring
  pub track-is_ring : (k : ℕ) → k < count → track_cells file k ≡ ring_of format image k
  unfolding track_cells
  track-is_ring k low =
      let place : ℕ = written_place k in
      let ring : List Bool = ring_of format image k in
      let whole : length ring ≡ 8 * (length ring / 8) =
      cells k low ∙ whole_ring format commodore k ∙ sym (ap (λ (n : ℕ). 8 * (n / 8)) (cells k low)) in
      ap (cells_at file) (offset-is k low)
      ∙ ap (λ (b : Bool). if b then [] else cells_of_bytes (take (length_at file place) (drop (place + 2) file))) (some_place k)
      ∙ ap (λ (n : ℕ). cells_of_bytes (take n (drop (place + 2) file))) (length-is k low)
      ∙ ap cells_of_bytes (bytes-are k low)
      ∙ cells-back ring whole
