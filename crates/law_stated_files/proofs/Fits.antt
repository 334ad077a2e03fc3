-- The rings of Commodore disks fit into the room of a track in a file.
use Rattle.std.specs.Prelude.{◌≡◌, ◌≤◌, ◌+◌, ℕ, length, refl}
use Rattle.std.proofs.Common.{arith, sym, subst, inl, inr}
use Rattle.std.proofs.lemmas.Bool.{cases_lt}
use Rattle.flux_engine.specs.Captures.{ImagesHaveRings}
use Rattle.flux_engine.specs.Recordings.{track_at}
use Rattle.flux_engine.specs.Rings.{ring_cells_of}
use Rattle.g64_image.specs.Layout.{IsCommodore}
use Rattle.law_stated_files.proofs.Files.{RingsFit}
use Rattle.sector_images.specs.Formats.{commodore_zone}
use Rattle.sector_images.specs.Places.{tracks}
use Rattle.sector_images.specs.declared.format.Format.{Format}
use Rattle.sector_images.specs.declared.format.Format.TheVariants.{C1541, C1541Forty}

short_zone : (cylinder : ℕ) → (commodore_zone cylinder).ring_cells ≤ 61488
short_zone cylinder =
    elim (cases_lt (cylinder + 1) 18) [
      | inl low ↦ grind (arith)
      | inr high ↦ grind (arith)
    ]

short_ring : (format : Format) → IsCommodore format → (k : ℕ) → ring_cells_of format k ≤ 61488
short_ring format (inl is) k = subst (λ (f : Format). ring_cells_of f k ≤ 61488) (sym is) (short_zone (track_at C1541 k).cylinder)
short_ring format (inr is) k = subst (λ (f : Format). ring_cells_of f k ≤ 61488) (sym is) (short_zone (track_at C1541Forty k).cylinder)

few_tracks : (format : Format) → IsCommodore format → length (tracks format) ≤ 42
few_tracks format (inl is) = (let few : length (tracks C1541) ≡ 35 = refl in subst (λ (f : Format). length (tracks f) ≤ 42) (sym is) (omega (arith, few)))
few_tracks format (inr is) = (let few : length (tracks C1541Forty) ≡ 40 = refl in subst (λ (f : Format). length (tracks f) ≤ 42) (sym is) (omega (arith, few)))

pub rings_fit : ImagesHaveRings → RingsFit
rings_fit rings = record {
  short = λ format image k commodore is low.
      let cells = (rings format image k is low).cells_are in
      let short = short_ring format commodore k in
      omega (arith, cells, short);
  few = few_tracks;
}
