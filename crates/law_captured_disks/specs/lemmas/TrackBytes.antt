-- The bytes of a track's sectors in an image.
use Rattle.std.specs.Prelude.{◌≡◌, ◌≤◌, ◌<◌, ℕ, zero, suc, ◌+◌, ◌-◌, ◌*◌, All, List, ◌++◌, drop}
use Rattle.std.specs.Prelude.{flat_map, get_or, length, take}
use Rattle.std.specs.List.{range_with_len}
use Rattle.std.proofs.Common.{ap, sym, subst, ◌∙◌, arith, inl, inr, length-drop}
use Rattle.std.proofs.lemmas.Bool.{cases_lt}
use Rattle.std.proofs.lemmas.List.{length-take-le}
use Rattle.std.proofs.lemmas.List.Elements.{All-append, All-drop, All-get_or, All-take}
use Rattle.std.proofs.Math.ListN.{get_or-eq_default}
use Rattle.std.proofs.Math.Seq.{drop-append_seam, take-append_seam}
use Rattle.flux_base.specs.declared.track.TrackId.{TrackId}
use Rattle.sector_images.specs.Formats.{row, zone}
use Rattle.sector_images.specs.Places.{IsSector, IsTrack, SectorsLieInImages, sector_place}
use Rattle.sector_images.specs.declared.format.Format.{Format}
use Rattle.track_rings.specs.Rings.{AreSectors, bytes_of}
use Rattle.track_rings.specs.lemmas.SectorParts.{sectors-length, sectors-parts}
use Rattle.flux_engine.specs.Rings.{IsImage, sector_bytes, track_bytes}

all_fit : (f : ℕ → List ℕ) (first count : ℕ) → ((k : ℕ) → All (λ byte. byte < 256) (f k))
    → All (λ byte. byte < 256) (flat_map f (range_with_len first count))
all_fit f first zero each = λ k d within. absurd (omega (arith, within))
all_fit f first (suc count) each =
    All-append (λ byte. byte < 256) (f first) (flat_map f (range_with_len (first + 1) count))
    (each first) (all_fit f (first + 1) count each)

byte_fits : (bytes : List ℕ) → All (λ byte. byte < 256) bytes → (k : ℕ) → get_or bytes k 0 < 256
byte_fits bytes all k =
    elim (cases_lt k (length bytes)) [
      | inl within ↦ All-get_or (λ byte. byte < 256) bytes k 0 within all
      | inr past ↦
          subst (λ (byte : ℕ). byte < 256) (sym (get_or-eq_default bytes 0 past)) (omega arith)
    ]

module _ (lie : SectorsLieInImages) (format : Format) (track : TrackId) (image : List ℕ)
    (is : IsImage format image) (known : IsTrack format track) where
  abbrev size : ℕ
  size = (row format).sector_size

  abbrev first : ℕ
  first = (row format).first_sector

  abbrev sectors : ℕ
  sectors = (zone format track.cylinder).sectors

  sector-size : (s : ℕ) → IsSector format track s
      → length (sector_bytes format track image s) ≡ size
  sector-size s one =
      let inside = lie format track s known one in
      length-take-le size (drop (sector_place format track s) image)
      (omega (arith, length-drop (sector_place format track s) image, is.size, inside))

  each_size : (s : ℕ) → first ≤ s → s < first + sectors
      → length (sector_bytes format track image s) ≡ size
  each_size s least most = sector-size s (least, most)

  -- they are those of so many sectors
  pub are_sectors : AreSectors sectors size (track_bytes format track image)
  unfolding track_bytes
  are_sectors = record {
    whole = sectors-length (sector_bytes format track image) size first sectors each_size;
    fit = byte_fits (track_bytes format track image)
        (all_fit (sector_bytes format track image) first sectors
        (λ s. All-take (λ byte. byte < 256) size (drop (sector_place format track s) image)
        (All-drop (λ byte. byte < 256) (sector_place format track s) image is.fit)));
  }

  -- and each sector's are those at its place in the image
  pub own_bytes : (s : ℕ) → IsSector format track s
      → bytes_of first size (track_bytes format track image) s ≡ sector_bytes format track image s
  unfolding track_bytes
  own_bytes s one =
      let f : ℕ → List ℕ = sector_bytes format track image in
      let before = s - first in
      let behind = sectors - suc before in
      let front : List ℕ = flat_map f (range_with_len first before) in
      let rest : List ℕ = flat_map f (range_with_len (s + 1) behind) in
      let split : flat_map f (range_with_len first sectors) ≡ front ++ (f s ++ rest) =
      sectors-parts f first sectors s before behind (omega (arith, one.0))
      (omega (arith, one.0, one.1)) in
      let long : length front ≡ before * size =
      sectors-length f size first before
      (λ t least most. each_size t least (omega (arith, most, one.0, one.1))) in
      ap (λ (bytes : List ℕ). take size (drop (before * size) bytes)) split
      ∙ ap (λ (n : ℕ). take size (drop n (front ++ (f s ++ rest)))) (sym long)
      ∙ ap (take size) (drop-append_seam front (f s ++ rest))
      ∙ ap (λ (n : ℕ). take n (f s ++ rest)) (sym (sector-size s one))
      ∙ take-append_seam (f s) rest
