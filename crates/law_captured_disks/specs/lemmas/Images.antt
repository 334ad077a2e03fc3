-- Two images that have the same bytes at the place of each sector are the same.
use Rattle.std.specs.Prelude.{◌≡◌, ◌<◌, ℕ, zero, suc, ◌+◌, ◌*◌, List, [], ◌∷◌, ◌++◌, drop, length}
use Rattle.std.specs.Prelude.{slice_get, sum_by, take, unwrap_or, Option, Some}
use Rattle.std.proofs.Common.{ap, sym, ◌∙◌, arith}
use Rattle.std.proofs.lemmas.List.{drop-drop, drop_all, take-append-drop, take_all}
use Rattle.std.proofs.lemmas.List.Sums.{sum_by-append, sum_by-cons}
use Rattle.std.proofs.lemmas.Option.{get_or_from_slice_get}
use Rattle.std.proofs.Math.Seq.{take-add, take-suc}
use Rattle.flux_base.specs.declared.track.TrackId.{TrackId}
use Rattle.sector_images.specs.Formats.{row, zone}
use Rattle.sector_images.specs.Places.{NumbersHoldSectors, NumbersNameTracks, TracksFillImages}
use Rattle.sector_images.specs.Places.{TracksJoin, bytes_of, place_of, sector_in, sector_place}
use Rattle.sector_images.specs.Places.{tracks}
use Rattle.sector_images.specs.declared.format.Format.{Format}
use Rattle.flux_engine.specs.Recordings.{track_at}
use Rattle.flux_engine.specs.Rings.{sector_bytes}
use Rattle.law_captured_disks.specs.Headline.{IsSectorOf}

-- parts of the same size, one after another
parts_same : (size count : ℕ) (xs ys : List ℕ)
    → ((j : ℕ) → j < count → take size (drop (size * j) xs) ≡ take size (drop (size * j) ys))
    → take (count * size) xs ≡ take (count * size) ys
parts_same size zero xs ys each =
    let none : 0 * size ≡ 0 = omega arith in
    ap (λ (n : ℕ). take n xs) none ∙ sym (ap (λ (n : ℕ). take n ys) none)
parts_same size (suc count) xs ys each =
    let e : suc count * size ≡ size + count * size = omega arith in
    let none : size * 0 ≡ 0 = omega arith in
    let first : take size xs ≡ take size ys =
    ap (λ (n : ℕ). take size (drop n xs)) (sym none) ∙ each 0 (omega arith)
    ∙ ap (λ (n : ℕ). take size (drop n ys)) none in
    let rest : take (count * size) (drop size xs) ≡ take (count * size) (drop size ys) =
    parts_same size count (drop size xs) (drop size ys)
    (λ j below.
    let next : size + size * j ≡ size * suc j = omega arith in
    ap (take size) (drop-drop (size * j) size xs ∙ ap (λ (n : ℕ). drop n xs) next)
    ∙ each (suc j) (omega (arith, below))
    ∙ sym (ap (take size) (drop-drop (size * j) size ys ∙ ap (λ (n : ℕ). drop n ys) next))) in
    ap (λ (n : ℕ). take n xs) e ∙ take-add size (count * size) xs
    ∙ ap (λ (zs : List ℕ). zs ++ take (count * size) (drop size xs)) first
    ∙ ap (λ (zs : List ℕ). take size ys ++ zs) rest
    ∙ sym (ap (λ (n : ℕ). take n ys) e ∙ take-add size (count * size) ys)

module _ (names : NumbersNameTracks) (hold : NumbersHoldSectors) (joined : TracksJoin)
    (filled : TracksFillImages) (format : Format) (a b : List ℕ)
    (size_a : length a ≡ (row format).image_size) (size_b : length b ≡ (row format).image_size)
    (same : (n sector : ℕ) → IsSectorOf format n sector
    → sector_bytes format (track_at format n) a sector
    ≡ sector_bytes format (track_at format n) b sector) where
  -- the bytes of so many tracks
  abbrev before : ℕ → ℕ
  before n = sum_by (bytes_of format) (take n (tracks format))

  named : (n : ℕ) → n < length (tracks format)
      → slice_get (tracks format) n ≡ Some (track_at format n)
  named n known =
      let one = names format n known in
      one.1
      ∙ ap Some
      (sym (ap (λ (t : Option TrackId). unwrap_or t (record { cylinder = 0; head = 0 })) one.1))

  before-suc : (n : ℕ) → n < length (tracks format)
      → before (suc n) ≡ before n + bytes_of format (track_at format n)
  before-suc n known =
      let track : TrackId = track_at format n in
      ap (sum_by (bytes_of format))
      (take-suc (tracks format) n track known
      ∙ ap (λ (t : TrackId). take n (tracks format) ++ t ∷ [])
      (get_or_from_slice_get (tracks format) n track track (named n known)))
      ∙ sum_by-append (bytes_of format) (take n (tracks format)) (track ∷ [])
      ∙ ap (λ (k : ℕ). before n + k) (sum_by-cons (bytes_of format) track [] ∙ omega arith)

  place : (n : ℕ) → n < length (tracks format) → place_of format (track_at format n) ≡ before n
  place n known = joined format n (track_at format n) (named n known)

  one_track : (n : ℕ) → n < length (tracks format)
      → take (bytes_of format (track_at format n)) (drop (before n) a)
      ≡ take (bytes_of format (track_at format n)) (drop (before n) b)
  unfolding sector_place
  one_track n known =
      let track : TrackId = track_at format n in
      let size = (row format).sector_size in
      parts_same size (zone format track.cylinder).sectors (drop (before n) a) (drop (before n) b)
      (λ j below.
      let at = hold format track j below in
      let sector : ℕ = sector_in format track j in
      let e : before n + size * j ≡ sector_place format track sector =
      ap (λ (p : ℕ). p + size * j) (sym (place n known))
      ∙ ap (λ (k : ℕ). place_of format track + size * k) (sym at.1) in
      ap (take size) (drop-drop (size * j) (before n) a ∙ ap (λ (p : ℕ). drop p a) e)
      ∙ same n sector (record { track = known; known = at.0 })
      ∙ sym (ap (take size) (drop-drop (size * j) (before n) b ∙ ap (λ (p : ℕ). drop p b) e)))

  tracks-before : before (length (tracks format)) ≡ (row format).image_size
  tracks-before = ap (sum_by (bytes_of format))
      (take_all (length (tracks format)) (tracks format) (omega arith))
      ∙ filled format

  from_track : (rest n : ℕ) → n + rest ≡ length (tracks format)
      → drop (before n) a ≡ drop (before n) b
  from_track zero n all =
      let e : n ≡ length (tracks format) = omega (arith, all) in
      let end : before n ≡ (row format).image_size = ap before e ∙ tracks-before in
      drop_all (before n) a (omega (arith, end, size_a))
      ∙ sym (drop_all (before n) b (omega (arith, end, size_b)))
  from_track (suc rest) n all =
      let known : n < length (tracks format) = omega (arith, all) in
      let count = bytes_of format (track_at format n) in
      let next : drop (before (suc n)) a ≡ drop (before (suc n)) b =
      from_track rest (suc n) (omega (arith, all)) in
      let later : (xs : List ℕ) → drop count (drop (before n) xs) ≡ drop (before (suc n)) xs = λ xs.
      drop-drop count (before n) xs ∙ ap (λ (p : ℕ). drop p xs) (sym (before-suc n known)) in
      sym (take-append-drop count (drop (before n) a))
      ∙ ap (λ (zs : List ℕ). zs ++ drop count (drop (before n) a)) (one_track n known)
      ∙ ap (λ (zs : List ℕ). take count (drop (before n) b) ++ zs) (later a ∙ next ∙ sym (later b))
      ∙ take-append-drop count (drop (before n) b)

  -- so they are one
  pub images-same : a ≡ b
  images-same = from_track (length (tracks format)) 0 (omega arith)
