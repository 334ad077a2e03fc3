-- The file that is written of a Commodore disk's image, by the places of its bytes: a
-- second spelling in plain numbers.
use Rattle.std.specs.Prelude.{◌≡◌, ◌<◌, ◌≤◌, ◌⊎◌, ◌+◌, ◌*◌, ◌/◌, ◌%◌, ◌^◌, ℕ, Bool, false, List, []}
use Rattle.std.specs.Prelude.{◌∷◌, cond, get_or, length, nat_lt, slice_index, if◌then◌else◌}
use Rattle.flux_engine.specs.Rings.{ring_of}
use Rattle.sector_images.specs.Places.{tracks}
use Rattle.sector_images.specs.declared.format.Format.{Format}

-- `GCR-1541`, version 0, 84 half tracks, and the 7928 bytes that each track has room for
abbrev pub FIRST_BYTES : List ℕ
FIRST_BYTES = 71 ∷ 67 ∷ 82 ∷ 45 ∷ 49 ∷ 53 ∷ 52 ∷ 49 ∷ 0 ∷ 84 ∷ 248 ∷ 30 ∷ []

-- byte number i of a number, the lowest first
abbrev pub byte_of : (i number : ℕ) → ℕ
byte_of i number = number / 256 ^ i % 256

-- how fast a track turns: 17 tracks with the fastest bits, then 7, then 6, and then all others
abbrev pub speed : (track : ℕ) → ℕ
speed track =
    if nat_lt track 17 then 3 else if nat_lt track 24 then 2 else if nat_lt track 30 then 1 else 0

abbrev pub bit : List Bool → (place : ℕ) → ℕ
bit ring place = cond (get_or ring place false) 1 0

-- eight cells of a ring as a byte, the first of them the highest bit
abbrev pub ring_byte : List Bool → (i : ℕ) → ℕ
ring_byte ring i =
    128 * bit ring (8 * i) + 64 * bit ring (8 * i + 1) + 32 * bit ring (8 * i + 2)
    + 16 * bit ring (8 * i + 3) + 8 * bit ring (8 * i + 4)
    + 4 * bit ring (8 * i + 5) + 2 * bit ring (8 * i + 6) + bit ring (8 * i + 7)

-- the half track is between two tracks, or behind the last
abbrev pub IsNoTrack : (count half : ℕ) → Type 0
IsNoTrack count half = (half % 2 ≡ 1) ⊎ (count ≤ half / 2)

-- From byte 12 on stand 84 offsets of four bytes, of the half tracks, and from byte 348 on 84
-- speeds. Those of half tracks that are no tracks are zeros. From byte 684 on stand the tracks,
-- 7930 bytes each: how many bytes the ring has, in two bytes; these bytes; and FF.
pub record IsDiskFile (format : Format) (image x : List ℕ) : Type 0 where
  pub size : length x ≡ 684 + 7930 * length (tracks format)
  pub first : (i : ℕ) → i < 12 → slice_index x i ≡ slice_index FIRST_BYTES i
  pub offsets : (k i : ℕ) → k < length (tracks format) → i < 4
      → slice_index x (12 + 8 * k + i) ≡ byte_of i (684 + 7930 * k)
  pub no_offsets : (half i : ℕ) → half < 84 → i < 4 → IsNoTrack (length (tracks format)) half
      → slice_index x (12 + 4 * half + i) ≡ 0
  pub speeds : (k i : ℕ) → k < length (tracks format) → i < 4
      → slice_index x (348 + 8 * k + i) ≡ byte_of i (speed k)
  pub no_speeds : (half i : ℕ) → half < 84 → i < 4 → IsNoTrack (length (tracks format)) half
      → slice_index x (348 + 4 * half + i) ≡ 0
  pub low_size : (k : ℕ) → k < length (tracks format)
      → slice_index x (684 + 7930 * k) ≡ length (ring_of format image k) / 8 % 256
  pub high_size : (k : ℕ) → k < length (tracks format)
      → slice_index x (685 + 7930 * k) ≡ length (ring_of format image k) / 8 / 256
  pub cells : (k i : ℕ) → k < length (tracks format) → i < length (ring_of format image k) / 8
      → slice_index x (686 + 7930 * k + i) ≡ ring_byte (ring_of format image k) i
  pub filled : (k i : ℕ) → k < length (tracks format) → length (ring_of format image k) / 8 ≤ i
      → i < 7928 → slice_index x (686 + 7930 * k + i) ≡ 255
