-- A written file has no fault.
use Rattle.std.specs.Prelude.{◌≡◌, ◌≤◌, ◌<◌, ◌==◌, ◌||◌, not, ℕ, zero, suc, ◌+◌, ◌*◌, Bool, false, filter_map, nat_lt, if◌then◌else◌, List, [], length, slice_get, slice_index, take, Option, None, refl}
use Rattle.std.specs.List.{range_with_len}
use Rattle.std.specs.Str.{bytes_eq}
use Rattle.std.proofs.Common.{ap, sym, ◌∙◌, arith}
use Rattle.std.proofs.lemmas.Bool.{le-ltb}
use Rattle.flux_engine.specs.Rings.{ring_cells_of, ring_of}
use Rattle.sector_images.specs.Places.{tracks}
use Rattle.sector_images.specs.declared.format.Format.{Format}
use Rattle.g64_image.specs.Faults.{MOST_BYTES, fault_at, first_fault, or_else, table_fault, track_fault, tracks_fault}
use Rattle.g64_image.specs.Layout.{HEADER_SIZE, IsCommodore, MOST_HALF_TRACKS, SIGNATURE, front, g64_file, half_tracks_of, length_at, tables_end, written_place}
use Rattle.g64_image.specs.declared.fault.G64Fault.{G64Fault}
use Rattle.g64_image.proofs.Tables.{none_more}
use Rattle.g64_image.proofs.WrittenFiles.{few_tracks, front-tracks, length-file, length-is, offset-is, short, some_place}

-- a choice by tests of which none holds
by_six : (a b c d e f : Bool) (u v w x y z : Option G64Fault) → a ≡ false → b ≡ false → c ≡ false → d ≡ false → e ≡ false → f ≡ false
    → (if a then u else if b then v else if c then w else if d then x else if e then y else if f then z else None) ≡ None
by_six a b c d e f u v w x y z p q r s t o = rw (p, q, r, s, t, o) refl

by_three : (a b c : Bool) (x y : Option G64Fault) → a ≡ false → b ≡ false → c ≡ false
    → (if a then None else if b then x else if c then y else None) ≡ None
by_three a b c x y p q r = rw (p, q, r) refl

-- the front has the signature and the version
signed : (format : Format) (image : List ℕ) → not (bytes_eq (take 8 (g64_file format image)) SIGNATURE) ≡ false
unfolding g64_file front
signed format image = refl

versioned : (format : Format) (image : List ℕ) → not (slice_index (g64_file format image) 8 == 0) ≡ false
unfolding g64_file front
versioned format image = refl

all_none : (f : ℕ → Option G64Fault) (n : ℕ) → ((k : ℕ) → k < n → f k ≡ None) → filter_map f (range_with_len 0 n) ≡ []
all_none f zero each = refl
all_none f (suc n) each =
    let more : suc n ≡ n + 1 = omega arith in
    ap (λ (m : ℕ). filter_map f (range_with_len 0 m)) more
    ∙ none_more f n (all_none f n (λ k low. each k (omega (arith, low)))) (sym (each n (omega arith)))

module _ (format : Format) (image : List ℕ) (commodore : IsCommodore format)
    (cells : (k : ℕ) → k < length (tracks format) → length (ring_of format image k) ≡ ring_cells_of format k) where
  abbrev file : List ℕ
  file = g64_file format image

  size : length file ≡ 684 + length (tracks format) * 7930
  size = length-file format image commodore cells

  no_table_fault : table_fault file ≡ None
  unfolding table_fault
  no_table_fault =
      let few = few_tracks format commodore in
      let half = front-tracks format image in
      by_six (nat_lt MOST_BYTES (length file)) (nat_lt (length file) HEADER_SIZE) (not (bytes_eq (take 8 file) SIGNATURE)) (not (slice_index file 8 == 0))
      (half_tracks_of file == 0 || nat_lt MOST_HALF_TRACKS (half_tracks_of file)) (nat_lt (length file) (tables_end (half_tracks_of file))) _ _ _ _ _ _
      (le-ltb MOST_BYTES (length file) (omega (arith, size, few)))
      (le-ltb (length file) HEADER_SIZE (omega (arith, size)))
      (signed format image) (versioned format image)
      (ap (λ (n : ℕ). n == 0 || nat_lt MOST_HALF_TRACKS n) half)
      (le-ltb (length file) (tables_end (half_tracks_of file)) (omega (arith, size, half)))

  no_track_fault : (k : ℕ) → k < length (tracks format) → track_fault file k ≡ None
  unfolding track_fault
  no_track_fault k low =
      let place : ℕ = written_place k in
      let fits : place + 7930 ≤ length file = omega (arith, size, low) in
      let few = short format image commodore cells k low in
      let long = length-is format image commodore cells k low in
      ap (fault_at file k) (offset-is format image commodore cells k low)
      ∙ by_three (place == 0) (nat_lt (length file) (place + 2)) (nat_lt (length file) (place + 2 + length_at file place)) _ _
      (some_place format image commodore cells k)
      (le-ltb (length file) (place + 2) (omega (arith, fits)))
      (le-ltb (length file) (place + 2 + length_at file place) (omega (arith, fits, few, long)))

  pub no_fault : first_fault format file ≡ None
  unfolding first_fault tracks_fault
  no_fault =
      ap (λ (first : Option G64Fault). or_else first (tracks_fault format file)) no_table_fault
      ∙ ap (λ (faults : List G64Fault). slice_get faults 0) (all_none (track_fault file) (length (tracks format)) no_track_fault)
