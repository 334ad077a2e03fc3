-- The parts of an image, one after another, are the image.
use Rattle.std.specs.Prelude.{◌≡◌, ◌≤◌, ◌<◌, ℕ, zero, suc, ◌+◌, ◌*◌, List, [], ◌∷◌, ◌++◌, drop, flat_map, length, replicate, slice_get, sum_by, take, unwrap_or, Option, Some}
use Rattle.std.specs.List.{range_with_len}
use Rattle.std.proofs.Common.{ap, sym, ◌∙◌, arith}
use Rattle.std.proofs.lemmas.List.{drop-drop, drop_all, take-append-drop, take_all}
use Rattle.std.proofs.lemmas.List.Sums.{sum_by-append, sum_by-cons}
use Rattle.std.proofs.lemmas.Option.{get_or_from_slice_get}
use Rattle.std.proofs.Math.Seq.{take-add, take-suc}
use Rattle.flux_base.specs.declared.track.TrackId.{TrackId}
use Rattle.flux_engine.specs.Disks.{images, part_at}
use Rattle.flux_engine.specs.Recordings.{track_at}
use Rattle.flux_engine.specs.Rings.{sector_bytes}
use Rattle.flux_engine.specs.Tracks.{TrackPart, image_of, image_piece}
use Rattle.sector_images.specs.Formats.{row, slot, zone}
use Rattle.sector_images.specs.Places.{IsSector, NumbersHoldSectors, NumbersNameTracks, TracksFillImages, TracksJoin, bytes_of, place_of, sector_in, sector_place, tracks}
use Rattle.sector_images.specs.declared.format.Format.{Format}
use Rattle.turn_merge.specs.Readings.{NotedReading, agreed}

-- pieces of one size that are cut from a list, one after another
slices : (f : ℕ → List ℕ) (size : ℕ) (xs : List ℕ) (from count : ℕ)
    → ((j : ℕ) → from ≤ j → j < from + count → f j ≡ take size (drop (size * j) xs))
    → flat_map f (range_with_len from count) ≡ take (count * size) (drop (size * from) xs)
slices f size xs from zero each =
    let none : 0 ≡ 0 * size = omega arith in ap (λ (n : ℕ). take n (drop (size * from) xs)) none
slices f size xs from (suc count) each =
    let rest : List ℕ = flat_map f (range_with_len (from + 1) count) in
    let all : size + count * size ≡ suc count * size = omega arith in
    let next : size * (from + 1) ≡ size * from + size = omega arith in
    let more : rest ≡ take (count * size) (drop size (drop (size * from) xs)) =
    slices f size xs (from + 1) count (λ j least most. each j (omega (arith, least)) (omega (arith, most)))
    ∙ ap (take (count * size)) (ap (λ (n : ℕ). drop n xs) next ∙ sym (drop-drop size (size * from) xs)) in
    ap (λ (ys : List ℕ). ys ++ rest) (each from (omega arith) (omega arith))
    ∙ ap (λ (ys : List ℕ). take size (drop (size * from) xs) ++ ys) more
    ∙ sym (ap (λ (n : ℕ). take n (drop (size * from) xs)) (sym all) ∙ take-add size (count * size) (drop (size * from) xs))

-- what the crates below promise of the places of tracks and sectors
pub record PlaceLaws : Type 0 where
  pub names : NumbersNameTracks
  pub hold : NumbersHoldSectors
  pub joined : TracksJoin
  pub filled : TracksFillImages

-- the bytes of so many tracks
abbrev pub before : Format → ℕ → ℕ
before format n = sum_by (bytes_of format) (take n (tracks format))

module _ (laws : PlaceLaws) (format : Format) where
  named : (n : ℕ) → n < length (tracks format) → slice_get (tracks format) n ≡ Some (track_at format n)
  named n known =
      let one = laws.names format n known in
      one.1 ∙ ap Some (sym (ap (λ (t : Option TrackId). unwrap_or t (record { cylinder = 0; head = 0 })) one.1))

  -- a track begins after the bytes of those before it
  pub place-is : (n : ℕ) → n < length (tracks format) → place_of format (track_at format n) ≡ before format n
  place-is n known = laws.joined format n (track_at format n) (named n known)

  pub before-more : (n : ℕ) → n < length (tracks format) → before format (n + 1) ≡ before format n + bytes_of format (track_at format n)
  before-more n known =
      let track : TrackId = track_at format n in
      let more : n + 1 ≡ suc n = omega arith in
      ap (before format) more
      ∙ ap (sum_by (bytes_of format))
      (take-suc (tracks format) n track known
      ∙ ap (λ (t : TrackId). take n (tracks format) ++ t ∷ []) (get_or_from_slice_get (tracks format) n track track (named n known)))
      ∙ sum_by-append (bytes_of format) (take n (tracks format)) (track ∷ [])
      ∙ ap (λ (k : ℕ). before format n + k) (sum_by-cons (bytes_of format) track [] ∙ omega arith)

  all_before : before format (length (tracks format)) ≡ (row format).image_size
  all_before = ap (sum_by (bytes_of format)) (take_all (length (tracks format)) (tracks format) (omega arith)) ∙ laws.filled format

module _ (laws : PlaceLaws) (format : Format) (image : List ℕ) (size : length image ≡ (row format).image_size) where
  -- a track's part is the image's, where all good readings of each sector hold the image's bytes
  pub track-part : (n : ℕ) → n < length (tracks format) → (readings : List NotedReading)
      → ((s : ℕ) → IsSector format (track_at format n) s → agreed readings s ≡ Some (sector_bytes format (track_at format n) image s))
      → image_of format (track_at format n) readings ≡ take (bytes_of format (track_at format n)) (drop (before format n) image)
  unfolding image_of sector_place
  track-part n known readings each =
      let track : TrackId = track_at format n in
      let unit : ℕ = (row format).sector_size in
      let place : place_of format track ≡ before format n = place-is laws format n known in
      let start : unit * 0 ≡ 0 = omega arith in
      slices (image_piece format track readings) unit (drop (before format n) image) 0 (zone format track.cylinder).sectors
      (λ j least low.
      let at = laws.hold format track j (omega (arith, low)) in
      let s : ℕ = sector_in format track j in
      let e : place_of format track + unit * slot format s ≡ before format n + unit * j =
      ap (λ (p : ℕ). p + unit * slot format s) place ∙ ap (λ (k : ℕ). before format n + unit * k) at.1 in
      ap (λ (bytes : Option (List ℕ)). unwrap_or bytes (replicate unit 0)) (each s at.0)
      ∙ ap (λ (p : ℕ). take unit (drop p image)) e ∙ sym (ap (take unit) (drop-drop (unit * j) (before format n) image)))
      ∙ ap (λ (p : ℕ). take ((zone format track.cylinder).sectors * unit) (drop p (drop (before format n) image))) start

  from_track : (parts : List TrackPart) (n : ℕ) → n + length parts ≡ length (tracks format)
      → ((k : ℕ) → k < length parts → (part_at parts k).image ≡ take (bytes_of format (track_at format (n + k))) (drop (before format (n + k)) image))
      → images parts ≡ drop (before format n) image
  from_track [] n all each =
      let e : n ≡ length (tracks format) = omega (arith, all) in
      let end : before format n ≡ (row format).image_size = ap (before format) e ∙ all_before laws format in
      sym (drop_all (before format n) image (omega (arith, end, size)))
  from_track (part ∷ parts) n all each =
      let known : n < length (tracks format) = omega (arith, all) in
      let count : ℕ = bytes_of format (track_at format n) in
      let here : n + 0 ≡ n = omega arith in
      let first : part.image ≡ take count (drop (before format n) image) =
      each 0 (omega arith) ∙ ap (λ (k : ℕ). take (bytes_of format (track_at format k)) (drop (before format k) image)) here in
      let rest : images parts ≡ drop (before format (n + 1)) image =
      from_track parts (n + 1) (omega (arith, all))
      (λ k low.
      let at : n + suc k ≡ n + 1 + k = omega arith in
      each (suc k) (omega (arith, low)) ∙ ap (λ (i : ℕ). take (bytes_of format (track_at format i)) (drop (before format i) image)) at) in
      let next : drop count (drop (before format n) image) ≡ drop (before format (n + 1)) image =
      drop-drop count (before format n) image ∙ ap (λ (p : ℕ). drop p image) (sym (before-more laws format n known)) in
      ap (λ (xs : List ℕ). xs ++ images parts) first
      ∙ ap (λ (xs : List ℕ). take count (drop (before format n) image) ++ xs) (rest ∙ sym next)
      ∙ take-append-drop count (drop (before format n) image)

  -- so all parts are the image
  pub images-are : (parts : List TrackPart) → length parts ≡ length (tracks format)
      → ((n : ℕ) → n < length parts → (part_at parts n).image ≡ take (bytes_of format (track_at format n)) (drop (before format n) image))
      → images parts ≡ image
  images-are parts many each =
      from_track parts 0 (omega (arith, many))
      (λ k low.
      let at : k ≡ 0 + k = omega arith in
      each k low ∙ ap (λ (i : ℕ). take (bytes_of format (track_at format i)) (drop (before format i) image)) at)
