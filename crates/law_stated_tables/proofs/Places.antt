-- Where sectors begin, one by one.
use Rattle.std.specs.Prelude.{◌≡◌, ℕ, ◌+◌, ◌-◌, ◌*◌, Bool, true, false, All, [], drop, get_or, map, nat_eq, refl}
use Rattle.std.specs.List.{list_all, range_with_len}
use Rattle.std.proofs.Common.{ap, arith, subst, sym, ◌∙◌}
use Rattle.std.proofs.lemmas.Bool.{eqb-true}
use Rattle.std.proofs.lemmas.List.Elements.{All-contains, All-cons, All-nil}
use Rattle.flux_base.specs.declared.track.TrackId.{TrackId}
use Rattle.disk_recordings.specs.Members.{place_in_ring}
use Rattle.disk_zones.specs.Zones.{commodore_8050_zone, commodore_zone, macintosh_zone}
use Rattle.disk_recordings.specs.Recordings.{numbered_by}
use Rattle.disk_recordings.specs.contracts.meaning.DiskRecordingMeaning.TheImpl.{ghosts}
use Rattle.ibm_disks.specs.Disks.{rate_of, track_of_disk}
use Rattle.ibm_disks.specs.Numbers.{size_of}
use Rattle.ibm_disks.specs.GapPlans.{density_of}
use Rattle.ibm_disks.specs.declared.rate.Density.{Density}
use Rattle.ibm_disks.specs.declared.rate.Density.TheVariants.{Single as SingleDensity, Double as DoubleDensity}
use Rattle.ibm_disks.specs.declared.sector_size.SectorSize.{SectorSize}
use Rattle.ibm_disks.specs.declared.track_numbers.LeadIn.{LeadIn}
use Rattle.ibm_disks.specs.declared.track_numbers.LeadIn.TheVariants.{Indexed, Bare}
use Rattle.ibm_disks.specs.declared.track_numbers.TrackNumbers.{TrackNumbers}
use Rattle.sector_images.specs.Formats.{IsWordOfFormat, row, zone}
use Rattle.sector_images.specs.declared.format.Format.{Format}
use Rattle.sector_images.specs.declared.format.Format.TheVariants.{Ibm3740, Ibm360, Ibm720, Ibm1440, Amiga, C1541, C1541Forty, AppleDo, ApplePo, AppleDos33, AppleProdos, Mac400, Mac800, C1571, AmigaHd, C8050, C8250, C1581}
use Rattle.track_rings.specs.Rows.{total}
use Rattle.law_stated_tables.specs.PlaceLaws.{HasPlaces, NumberedPlacesAreStated, PlacesAreStated}
use Rattle.law_stated_tables.specs.Places.{StatedPlaces, bytes_around, bytes_before, stated_places}
use Rattle.law_stated_tables.specs.Words.{recording}
use Rattle.law_stated_tables.proofs.Tests.{each_below}

abbrev at_places : StatedPlaces → Format → (cylinder : ℕ) → Bool
at_places stated format cylinder =
    list_all (λ b. b)
    (map (λ sector. nat_eq (place_in_ring format (record { cylinder = cylinder; head = 0 }) ((row format).first_sector + sector)) (stated.begin + stated.pitch * sector))
    (range_with_len 0 (zone format cylinder).sectors))

abbrev are_places : StatedPlaces → Format → Bool
are_places stated format = list_all (λ b. b) (map (λ k. at_places stated format (stated.first + k)) (range_with_len 0 (stated.end - stated.first)))

abbrev Places : StatedPlaces → Type 0
Places stated = (format : Format) × IsWordOfFormat stated.word format × HasPlaces stated format

-- both heads have the same ones
abbrev HeadsAgree : Format → Type 0
HeadsAgree format = (track : TrackId) (s : ℕ) → place_in_ring format (record { cylinder = track.cylinder; head = 0 }) s ≡ place_in_ring format track s

module _ (stated : StatedPlaces) where
  has_places : (format : Format) → HeadsAgree format → are_places stated format ≡ true → HasPlaces stated format
  has_places format heads all track sector first end below =
      let k : ℕ = track.cylinder - stated.first in
      let same : stated.first + k ≡ track.cylinder = omega (arith, first) in
      let listed = each_below (λ n. at_places stated format (stated.first + n)) (stated.end - stated.first) all k (omega (arith, first, end)) in
      let here : at_places stated format track.cylinder ≡ true = subst (λ (c : ℕ). at_places stated format c ≡ true) same listed in
      let one =
      each_below
      (λ n. nat_eq (place_in_ring format (record { cylinder = track.cylinder; head = 0 }) ((row format).first_sector + n)) (stated.begin + stated.pitch * n))
      (zone format track.cylinder).sectors here sector below in
      sym (heads track ((row format).first_sector + sector)) ∙ eqb-true _ _ one

  stand : (format : Format) → IsWordOfFormat stated.word format → HeadsAgree format → are_places stated format ≡ true → Places stated
  stand format word heads all = (format, word, has_places format heads all)

abbrev places_at : ℕ → StatedPlaces
places_at k = get_or stated_places k (record { word = []; first = 0; end = 0; begin = 0; pitch = 0 })

each : All Places stated_places
unfolding commodore_zone commodore_8050_zone macintosh_zone total
each =
    let from_32 = All-cons Places (places_at 32) (drop 33 stated_places) (stand (places_at 32) C1581 refl (λ t s. refl) refl) (All-nil Places) in
    let from_31 = All-cons Places (places_at 31) (drop 32 stated_places) (stand (places_at 31) C8250 refl (λ t s. refl) refl) from_32 in
    let from_30 = All-cons Places (places_at 30) (drop 31 stated_places) (stand (places_at 30) C8250 refl (λ t s. refl) refl) from_31 in
    let from_29 = All-cons Places (places_at 29) (drop 30 stated_places) (stand (places_at 29) C8250 refl (λ t s. refl) refl) from_30 in
    let from_28 = All-cons Places (places_at 28) (drop 29 stated_places) (stand (places_at 28) C8250 refl (λ t s. refl) refl) from_29 in
    let from_27 = All-cons Places (places_at 27) (drop 28 stated_places) (stand (places_at 27) C8050 refl (λ t s. refl) refl) from_28 in
    let from_26 = All-cons Places (places_at 26) (drop 27 stated_places) (stand (places_at 26) C8050 refl (λ t s. refl) refl) from_27 in
    let from_25 = All-cons Places (places_at 25) (drop 26 stated_places) (stand (places_at 25) C8050 refl (λ t s. refl) refl) from_26 in
    let from_24 = All-cons Places (places_at 24) (drop 25 stated_places) (stand (places_at 24) C8050 refl (λ t s. refl) refl) from_25 in
    let from_23 = All-cons Places (places_at 23) (drop 24 stated_places) (stand (places_at 23) Mac800 refl (λ t s. refl) refl) from_24 in
    let from_22 = All-cons Places (places_at 22) (drop 23 stated_places) (stand (places_at 22) Mac400 refl (λ t s. refl) refl) from_23 in
    let from_21 = All-cons Places (places_at 21) (drop 22 stated_places) (stand (places_at 21) AppleProdos refl (λ t s. refl) refl) from_22 in
    let from_20 = All-cons Places (places_at 20) (drop 21 stated_places) (stand (places_at 20) AppleDos33 refl (λ t s. refl) refl) from_21 in
    let from_19 = All-cons Places (places_at 19) (drop 20 stated_places) (stand (places_at 19) ApplePo refl (λ t s. refl) refl) from_20 in
    let from_18 = All-cons Places (places_at 18) (drop 19 stated_places) (stand (places_at 18) AppleDo refl (λ t s. refl) refl) from_19 in
    let from_17 = All-cons Places (places_at 17) (drop 18 stated_places) (stand (places_at 17) C1571 refl (λ t s. refl) refl) from_18 in
    let from_16 = All-cons Places (places_at 16) (drop 17 stated_places) (stand (places_at 16) C1571 refl (λ t s. refl) refl) from_17 in
    let from_15 = All-cons Places (places_at 15) (drop 16 stated_places) (stand (places_at 15) C1571 refl (λ t s. refl) refl) from_16 in
    let from_14 = All-cons Places (places_at 14) (drop 15 stated_places) (stand (places_at 14) C1571 refl (λ t s. refl) refl) from_15 in
    let from_13 = All-cons Places (places_at 13) (drop 14 stated_places) (stand (places_at 13) C1541Forty refl (λ t s. refl) refl) from_14 in
    let from_12 = All-cons Places (places_at 12) (drop 13 stated_places) (stand (places_at 12) C1541Forty refl (λ t s. refl) refl) from_13 in
    let from_11 = All-cons Places (places_at 11) (drop 12 stated_places) (stand (places_at 11) C1541Forty refl (λ t s. refl) refl) from_12 in
    let from_10 = All-cons Places (places_at 10) (drop 11 stated_places) (stand (places_at 10) C1541Forty refl (λ t s. refl) refl) from_11 in
    let from_9 = All-cons Places (places_at 9) (drop 10 stated_places) (stand (places_at 9) C1541 refl (λ t s. refl) refl) from_10 in
    let from_8 = All-cons Places (places_at 8) (drop 9 stated_places) (stand (places_at 8) C1541 refl (λ t s. refl) refl) from_9 in
    let from_7 = All-cons Places (places_at 7) (drop 8 stated_places) (stand (places_at 7) C1541 refl (λ t s. refl) refl) from_8 in
    let from_6 = All-cons Places (places_at 6) (drop 7 stated_places) (stand (places_at 6) C1541 refl (λ t s. refl) refl) from_7 in
    let from_5 = All-cons Places (places_at 5) (drop 6 stated_places) (stand (places_at 5) AmigaHd refl (λ t s. refl) refl) from_6 in
    let from_4 = All-cons Places (places_at 4) (drop 5 stated_places) (stand (places_at 4) Amiga refl (λ t s. refl) refl) from_5 in
    let from_3 = All-cons Places (places_at 3) (drop 4 stated_places) (stand (places_at 3) Ibm1440 refl (λ t s. refl) refl) from_4 in
    let from_2 = All-cons Places (places_at 2) (drop 3 stated_places) (stand (places_at 2) Ibm720 refl (λ t s. refl) refl) from_3 in
    let from_1 = All-cons Places (places_at 1) (drop 2 stated_places) (stand (places_at 1) Ibm360 refl (λ t s. refl) refl) from_2 in
    All-cons Places (places_at 0) (drop 1 stated_places) (stand (places_at 0) Ibm3740 refl (λ t s. refl) refl) from_1

pub places_are_stated : PlacesAreStated
places_are_stated stated listed = All-contains Places stated_places stated each listed

-- the place of a sector by the cells before the first one and from one to the next
shape : (first sector lead pitch before b a : ℕ) → lead + before ≡ 16 * b → pitch ≡ 16 * a
    → lead + (first + sector - first) * pitch + before ≡ 16 * (b + a * sector)
shape first sector lead pitch before b a sum each =
    let one : first + sector - first ≡ sector = omega arith in
    let all : (first + sector - first) * pitch ≡ sector * (16 * a) = ap (λ (k : ℕ). k * pitch) one ∙ ap (λ (k : ℕ). sector * k) each in
    let turned : sector * (16 * a) ≡ 16 * (a * sector) = omega arith in
    omega (arith, sum, all, turned)

module _ (sectors first : ℕ) (size : SectorSize) (gap bytes : ℕ) (track : TrackId) (sector : ℕ) where
  abbrev numbers : LeadIn → TrackNumbers
  numbers lead_in = record { sectors = sectors; first_sector = first; size = size; lead_in = lead_in; sector_gap = gap; bytes = bytes }

  by_numbers : (density : Density) (is_mfm : Bool) → density ≡ recording is_mfm → (lead_in : LeadIn)
      → ghosts.sector_place (numbered_by density (numbers lead_in)) track (first + sector)
      ≡ 16 * (bytes_before is_mfm lead_in + (bytes_around is_mfm lead_in + size_of size + gap) * sector)
  unfolding total
  by_numbers DoubleDensity true is Indexed = shape first sector _ _ _ (bytes_before true Indexed) (bytes_around true Indexed + size_of size + gap) (omega arith) (omega arith)
  by_numbers DoubleDensity true is Bare = shape first sector _ _ _ (bytes_before true Bare) (bytes_around true Bare + size_of size + gap) (omega arith) (omega arith)
  by_numbers SingleDensity false is Indexed = shape first sector _ _ _ (bytes_before false Indexed) (bytes_around false Indexed + size_of size + gap) (omega arith) (omega arith)
  by_numbers SingleDensity false is Bare = shape first sector _ _ _ (bytes_before false Bare) (bytes_around false Bare + size_of size + gap) (omega arith) (omega arith)
  by_numbers DoubleDensity false is lead_in = absurd (cc)
  by_numbers SingleDensity true is lead_in = absurd (cc)

pub numbered_places_are_stated : NumberedPlacesAreStated
numbered_places_are_stated disk is_mfm is track sector =
    let t : TrackNumbers = track_of_disk disk in
    by_numbers t.sectors t.first_sector t.size t.sector_gap t.bytes track sector (density_of (rate_of disk)) is_mfm is t.lead_in
