-- Where sectors fit a track there is one, and only there.
use Rattle.std.specs.Prelude.{◌≡◌, ◌⊎◌, ℕ, ◌+◌, ◌-◌, ◌*◌, ◌/◌, ◌<◌, ◌≤◌, Bool, true, false, ◌&&◌, nat_le, if◌then◌else◌, min, Option, Some, None, refl}
use Rattle.std.proofs.Common.{ap, arith, inl, inr, lit≤, subst}
use Rattle.std.proofs.Math.Nat.{div-lt_iff_lt-mul, le-div_iff_mul-le, lt-mul-div-succ, min-le_left, mul_comm}
use Rattle.std.proofs.lemmas.Bool.{le-leb, leb-false, leb-true}
use Rattle.ibm_disks.specs.Numbers.{size_of}
use Rattle.ibm_disks.specs.GapPlans.{bare_track, density_of, if_wide, indexed_track, track_at, track_bytes, track_of}
use Rattle.ibm_disks.specs.declared.rate.Density.{Density}
use Rattle.ibm_disks.specs.declared.rate.Density.TheVariants.{Single as SingleDensity, Double as DoubleDensity}
use Rattle.ibm_disks.specs.declared.rate.Rate.{Rate}
use Rattle.ibm_disks.specs.declared.sector_size.SectorSize.{SectorSize}
use Rattle.ibm_disks.specs.declared.track_numbers.TrackNumbers.{TrackNumbers}
use Rattle.law_stated_tables.specs.Words.{FitTrack, IsGap, IsWidest}
use Rattle.law_stated_tables.proofs.Rates.{is_double}

-- the tracks of a disk's numbers, with their index mark in MFM or in FM, or bare
module _ (rate : Rate) (sectors first : ℕ) (size : SectorSize) where
  abbrev wide_mfm : TrackNumbers
  wide_mfm = indexed_track 146 62 (record { rate = rate; sectors = sectors; first_sector = first; size = size })

  abbrev wide_fm : TrackNumbers
  wide_fm = indexed_track 73 33 (record { rate = rate; sectors = sectors; first_sector = first; size = size })

  abbrev narrow : TrackNumbers
  narrow = bare_track (record { rate = rate; sectors = sectors; first_sector = first; size = size })

  -- the one that they have, where there are few sectors
  abbrev pub track_by : Density → Option TrackNumbers
  track_by density = track_at density (record { rate = rate; sectors = sectors; first_sector = first; size = size })

  -- it has these numbers
  abbrev pub IsPlanned : TrackNumbers → Type 0
  IsPlanned track = (track.sectors ≡ sectors) × (track.first_sector ≡ first) × (track.size ≡ size) × (track.bytes ≡ track_bytes rate)

  -- and its gap is the widest
  abbrev pub HasGap : Density → TrackNumbers → Type 0
  HasGap density track = IsGap (is_double density) sectors (size_of size) (track_bytes rate) track.lead_in track.sector_gap

  abbrev pub HasTrack : Density → Option TrackNumbers → Type 0
  HasTrack density o = (track : TrackNumbers) × (o ≡ Some track) × IsPlanned track × HasGap density track

  -- the first of two tracks, or the second
  choose : (density : Density) (wide : Bool) (track : TrackNumbers) (other : Option TrackNumbers) → IsPlanned track → (wide ≡ true → HasGap density track)
      → (wide ≡ false → HasTrack density other) → HasTrack density (if wide then Some track else other)
  choose density true track other planned first later = (track, refl, planned, first refl)
  choose density false track other planned first later = later refl

  -- a choice by a test that passes
  taken : (density : Density) (wide : Bool) (track : TrackNumbers) (other : Option TrackNumbers) → wide ≡ true → IsPlanned track → HasGap density track
      → HasTrack density (if wide then Some track else other)
  taken density true track other is planned gap = (track, refl, planned, gap)
  taken density false track other is planned gap = absurd (cc)

-- a gap of so many bytes at least, of what is left for it
at_least : (least part rest : ℕ) → 0 < part → least ≤ 80 → least * part ≤ rest → least ≤ min (rest / part) 80
at_least least part rest some few enough =
    let whole : least ≤ rest / part = (le-div_iff_mul-le some).1 enough in
    omega (arith, whole, few)

-- it is the widest
widest_of : (part rest : ℕ) → 0 < part → IsWidest part rest (min (rest / part) 80)
widest_of part rest some =
    let whole : ℕ = rest / part in
    let gap : ℕ = min whole 80 in
    let low : gap ≤ whole = min-le_left whole 80 in
    let fit : gap * part ≤ rest = (le-div_iff_mul-le some).0 low in
    let turned : part * gap ≡ gap * part = mul_comm part gap in
    record {
      most = omega arith;
      within = omega (arith, fit, turned);
      widest = by (nat_le 80 whole) refl;
    }
  where
    by : (b : Bool) → nat_le 80 (rest / part) ≡ b → (min (rest / part) 80 ≡ 80) ⊎ (rest < part * (min (rest / part) 80 + 1))
    by true is =
        let most : 80 ≤ rest / part = leb-true _ _ is in
        inl (omega (arith, most))
    by false is =
        let less : rest / part < 80 = leb-false _ _ is in
        let same : rest / part ≡ min (rest / part) 80 = omega (arith, less) in
        inr (subst (λ (gap : ℕ). rest < part * (gap + 1)) same (lt-mul-div-succ rest some))

-- nor has what is left more, where it has fewer
no_room : (least part rest : ℕ) → 0 < part → least ≤ 80 → min (rest / part) 80 < least → rest < part * least
no_room least part rest some few narrow =
    let low : rest / part < least = omega (arith, few, narrow) in
    let below : rest < least * part = (div-lt_iff_lt-mul some).0 low in
    omega (arith, below, mul_comm part least)

-- and what is left, where a gap has as many
part_of : (least part rest : ℕ) → 0 < part → least ≤ min (rest / part) 80 → least * part ≤ rest
part_of least part rest some wide =
    let low : min (rest / part) 80 ≤ rest / part = min-le_left (rest / part) 80 in
    (le-div_iff_mul-le some).0 (omega (arith, low, wide))

module _ (rate : Rate) (sectors first : ℕ) (size : SectorSize) (some : 1 ≤ sectors) where
  narrow_enough : 10 + sectors * (53 + size_of size + 1) + 1 ≤ track_bytes rate → 1 ≤ (narrow rate sectors first size).sector_gap
  narrow_enough fit =
      let rest : ℕ = track_bytes rate - (10 + sectors * (53 + size_of size)) in
      let enough : 1 * (sectors + 1) ≤ rest = omega (arith, fit) in
      at_least 1 (sectors + 1) rest (omega arith) (lit≤ tt) enough

  wide_enough : 7 * (73 + sectors * (33 + size_of size)) + 8 * (4 * sectors) ≤ 7 * track_bytes rate → 4 ≤ (wide_fm rate sectors first size).sector_gap
  wide_enough fit =
      let rest : ℕ = track_bytes rate - (73 + sectors * (33 + size_of size)) in
      let enough : 4 * (8 * sectors) ≤ 7 * rest = omega (arith, fit) in
      at_least 4 (8 * sectors) (7 * rest) (omega (arith, some)) (lit≤ tt) enough

  pub made : (density : Density) → FitTrack (is_double density) sectors (size_of size) (track_bytes rate)
      → HasTrack rate sectors first size density (track_by rate sectors first size density)
  made DoubleDensity fit =
      let wide : TrackNumbers = wide_mfm rate sectors first size in
      let bare : TrackNumbers = narrow rate sectors first size in
      let left : ℕ = track_bytes rate - (146 + sectors * (62 + size_of size)) in
      let bare_left : ℕ = track_bytes rate - (10 + sectors * (53 + size_of size)) in
      choose rate sectors first size DoubleDensity (nat_le 10 wide.sector_gap) wide (if_wide 1 bare None) (refl, refl, refl, refl)
      (λ is. inl (refl, widest_of (8 * sectors) (7 * left) (omega (arith, some)), leb-true _ _ is))
      (λ is. taken rate sectors first size DoubleDensity (nat_le 1 bare.sector_gap) bare None (le-leb _ _ (narrow_enough fit)) (refl, refl, refl, refl)
      (inr (
        refl,
        widest_of (sectors + 1) bare_left (omega arith),
        narrow_enough fit,
        no_room 10 (8 * sectors) (7 * left) (omega (arith, some)) (lit≤ tt) (leb-false _ _ is),
      )))
  made SingleDensity fit =
      let wide : TrackNumbers = wide_fm rate sectors first size in
      let left : ℕ = track_bytes rate - (73 + sectors * (33 + size_of size)) in
      taken rate sectors first size SingleDensity (nat_le 4 wide.sector_gap) wide None (le-leb _ _ (wide_enough fit)) (refl, refl, refl, refl)
      (refl, widest_of (8 * sectors) (7 * left) (omega (arith, some)), wide_enough fit)

-- a track that was made has room
none_made : (made : TrackNumbers) → None ≡ Some made → ⊥
none_made made same = cc

passed : (wide : Bool) (track made : TrackNumbers) (other : Option TrackNumbers) → (if wide then Some track else other) ≡ Some made
    → (wide ≡ true) ⊎ (other ≡ Some made)
passed true track made other is = inl refl
passed false track made other is = inr is

module _ (rate : Rate) (sectors first : ℕ) (size : SectorSize) (some : 1 ≤ sectors) where
  room_mfm : 10 * (8 * sectors) ≤ 7 * (track_bytes rate - (146 + sectors * (62 + size_of size))) → FitTrack true sectors (size_of size) (track_bytes rate)
  room_mfm enough = omega (arith, enough, some)

  room_bare : 1 * (sectors + 1) ≤ track_bytes rate - (10 + sectors * (53 + size_of size)) → FitTrack true sectors (size_of size) (track_bytes rate)
  room_bare enough = omega (arith, enough, some)

  room_fm : 4 * (8 * sectors) ≤ 7 * (track_bytes rate - (73 + sectors * (33 + size_of size))) → FitTrack false sectors (size_of size) (track_bytes rate)
  room_fm enough = omega (arith, enough, some)

  pub room : (density : Density) (track : TrackNumbers) → track_by rate sectors first size density ≡ Some track
      → FitTrack (is_double density) sectors (size_of size) (track_bytes rate)
  room DoubleDensity track is =
      let wide : TrackNumbers = wide_mfm rate sectors first size in
      let bare : TrackNumbers = narrow rate sectors first size in
      elim (passed (nat_le 10 wide.sector_gap) wide track (if_wide 1 bare None) is) [
        | inl enough ↦
            room_mfm (part_of 10 (8 * sectors) (7 * (track_bytes rate - (146 + sectors * (62 + size_of size)))) (omega (arith, some)) (leb-true 10 wide.sector_gap enough))
        | inr later ↦ elim (passed (nat_le 1 bare.sector_gap) bare track None later) [
          | inl enough ↦
              room_bare (part_of 1 (sectors + 1) (track_bytes rate - (10 + sectors * (53 + size_of size))) (omega arith) (leb-true 1 bare.sector_gap enough))
          | inr none ↦ absurd (none_made track none)
        ]
      ]
  room SingleDensity track is =
      let wide : TrackNumbers = wide_fm rate sectors first size in
      elim (passed (nat_le 4 wide.sector_gap) wide track None is) [
        | inl enough ↦
            room_fm (part_of 4 (8 * sectors) (7 * (track_bytes rate - (73 + sectors * (33 + size_of size)))) (omega (arith, some)) (leb-true 4 wide.sector_gap enough))
        | inr none ↦ absurd (none_made track none)
      ]

-- few sectors have the track that their numbers make, and no others have one
all_three : (a b c : Bool) → a ≡ true → b ≡ true → c ≡ true → (a && b && c) ≡ true
all_three true true true one two three = refl
all_three false b c one two three = absurd (cc)
all_three true false c one two three = absurd (cc)
all_three true true false one two three = absurd (cc)

pub planned : (rate : Rate) (sectors first : ℕ) (size : SectorSize) → 1 ≤ sectors → sectors ≤ 32 → first + sectors ≤ 256
    → track_of rate sectors first size ≡ track_by rate sectors first size (density_of rate)
planned rate sectors first size some few low =
    let test = all_three (nat_le 1 sectors) (nat_le sectors 32) (nat_le (first + sectors) 256) (le-leb _ _ some) (le-leb _ _ few) (le-leb _ _ low) in
    ap (λ (b : Bool). if b then track_by rate sectors first size (density_of rate) else None) test

chosen : (a b c : Bool) (o : Option TrackNumbers) (track : TrackNumbers) → (if a && b && c then o else None) ≡ Some track
    → (a ≡ true) × (b ≡ true) × (c ≡ true) × (o ≡ Some track)
chosen true true true o track is = (refl, refl, refl, is)
chosen false b c o track is = absurd (cc)
chosen true false c o track is = absurd (cc)
chosen true true false o track is = absurd (cc)

pub few_sectors : (rate : Rate) (sectors first : ℕ) (size : SectorSize) (track : TrackNumbers) → track_of rate sectors first size ≡ Some track
    → (1 ≤ sectors) × (sectors ≤ 32) × (first + sectors ≤ 256) × (track_by rate sectors first size (density_of rate) ≡ Some track)
few_sectors rate sectors first size track is =
    let tests =
    chosen (nat_le 1 sectors) (nat_le sectors 32) (nat_le (first + sectors) 256) (track_by rate sectors first size (density_of rate)) track is in
    (leb-true 1 sectors tests.0, leb-true sectors 32 tests.1, leb-true (first + sectors) 256 tests.2, tests.3)
