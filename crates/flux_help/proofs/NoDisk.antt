-- The numbers that do not fit are just those of no disk.
use Rattle.std.specs.Prelude.{◌≡◌, ℕ, ◌+◌, ◌≤◌, ◌&&◌, Bool, true, false, cond, not, if◌then◌else◌, is_some, nat_le, Option, Some, None, IfSome, refl}
use Rattle.std.specs.Option.{option_and_then}
use Rattle.std.proofs.Common.{ap, arith, sym, subst, ◌∙◌}
use Rattle.std.proofs.lemmas.Bool.{and_from, and_parts, le-leb, leb-true}
use Rattle.ibm_disks.specs.Disks.{HasTrack, IsDiskOf, are_few, sound, track_of_disk}
use Rattle.ibm_disks.specs.GapPlans.{FillsTrackOf, density_of, track_at, track_of}
use Rattle.ibm_disks.specs.lemmas.DiskLaws.{is-sound}
use Rattle.ibm_disks.specs.lemmas.GapPlanLaws.{filled}
use Rattle.ibm_disks.specs.declared.disk.IbmDisk.{IbmDisk}
use Rattle.ibm_disks.specs.declared.rate.Rate.{Rate}
use Rattle.ibm_disks.specs.declared.sector_size.SectorSize.{SectorSize}
use Rattle.ibm_disks.specs.declared.track_numbers.TrackNumbers.{TrackNumbers}
use Rattle.ibm_disks.specs.declared.word.DiskNumbers.{DiskNumbers}
use Rattle.flux_help.specs.Unfit.{UnfitIsNoDisk, first_unfit, fits, last_sector, size_with}
use Rattle.flux_help.specs.declared.unfit.Unfit.{Unfit}
use Rattle.flux_help.specs.declared.unfit.Unfit.TheVariants.{Cylinders, Heads, Sectors, SectorBytes, LastSector, Track}
use Rattle.flux_help.proofs.Sizes.{size-has, size-some}

-- a choice that was made passed its test
chosen : {X : Type 0} (a b c : Bool) (o : Option X) (x : X) → (if a && b && c then o else None) ≡ Some x → (a ≡ true) × (b ≡ true) × (c ≡ true) × (o ≡ Some x)
chosen true true true o x is = (refl, refl, refl, is)
chosen false b c o x is = absurd (cc)
chosen true false c o x is = absurd (cc)
chosen true true false o x is = absurd (cc)

-- so many cylinders of one head, and one cylinder of so many heads
few-cylinders : (n : ℕ) → 1 ≤ n → n ≤ 99 → are_few n 1 ≡ true
few-cylinders n some few = and_from _ _ (and_from _ _ (and_from _ _ (le-leb _ _ some) (le-leb _ _ few)) refl) refl

few-heads : (n : ℕ) → 1 ≤ n → n ≤ 2 → are_few 1 n ≡ true
few-heads n some few = and_from _ _ (le-leb _ _ some) (le-leb _ _ few)

cylinders-few : (n : ℕ) → are_few n 1 ≡ true → (1 ≤ n) × (n ≤ 99)
cylinders-few n is =
    let all = and_parts (nat_le 1 n && nat_le n 99 && true) true is in
    let parts = and_parts (nat_le 1 n) (nat_le n 99) (and_parts (nat_le 1 n && nat_le n 99) true all.0).0 in
    (leb-true _ _ parts.0, leb-true _ _ parts.1)

heads-few : (n : ℕ) → are_few 1 n ≡ true → (1 ≤ n) × (n ≤ 2)
heads-few n is =
    let parts = and_parts (nat_le 1 n) (nat_le n 2) is in
    (leb-true _ _ parts.0, leb-true _ _ parts.1)

-- the numbers of a track fill it
fills : (rate : Rate) (sectors first : ℕ) (size : SectorSize) (track : TrackNumbers) → track_of rate sectors first size ≡ Some track → FillsTrackOf rate track
fills rate sectors first size track is =
    let tests = chosen (nat_le 1 sectors) (nat_le sectors 32) (nat_le (first + sectors) 256)
    (track_at (density_of rate) (record { rate = rate; sectors = sectors; first_sector = first; size = size })) track is in
    subst (λ (o : Option TrackNumbers). IfSome o (FillsTrackOf rate)) tests.3
    (filled (record { rate = rate; sectors = sectors; first_sector = first; size = size }) (leb-true _ _ tests.0) (leb-true _ _ tests.2) (density_of rate))

-- six tests, the first of which that fails is told
abbrev unfit-of : (a b c d e f : Bool) → Option Unfit
unfit-of a b c d e f =
    cond (not a) (Some Cylinders)
    (cond (not b) (Some Heads)
    (cond (not c) (Some Sectors) (cond (not d) (Some SectorBytes) (cond (not e) (Some LastSector) (cond (not f) (Some Track) None)))))

all-fit : (a b c d e f : Bool) → unfit-of a b c d e f ≡ None → (a ≡ true) × (b ≡ true) × (c ≡ true) × (d ≡ true) × (e ≡ true) × (f ≡ true)
all-fit true true true true true true is = (refl, refl, refl, refl, refl, refl)
all-fit false b c d e f is = absurd (cc)
all-fit true false c d e f is = absurd (cc)
all-fit true true false d e f is = absurd (cc)
all-fit true true true false e f is = absurd (cc)
all-fit true true true true false f is = absurd (cc)
all-fit true true true true true false is = absurd (cc)

none-unfit : (a b c d e f : Bool) → a ≡ true → b ≡ true → c ≡ true → d ≡ true → e ≡ true → f ≡ true → unfit-of a b c d e f ≡ None
none-unfit true true true true true true is_a is_b is_c is_d is_e is_f = refl
none-unfit false b c d e f is_a is_b is_c is_d is_e is_f = absurd (cc)
none-unfit true false c d e f is_a is_b is_c is_d is_e is_f = absurd (cc)
none-unfit true true false d e f is_a is_b is_c is_d is_e is_f = absurd (cc)
none-unfit true true true false e f is_a is_b is_c is_d is_e is_f = absurd (cc)
none-unfit true true true true false f is_a is_b is_c is_d is_e is_f = absurd (cc)
none-unfit true true true true true false is_a is_b is_c is_d is_e is_f = absurd (cc)

module _ (n : DiskNumbers) where
  -- a disk of these numbers
  the_disk : (track : TrackNumbers) → 1 ≤ n.cylinders → n.cylinders ≤ 99 → 1 ≤ n.heads → n.heads ≤ 2 → HasTrack n track
      → IsDiskOf n (record { cylinders = n.cylinders; heads = n.heads; rate = n.rate; track = track })
  the_disk track some few one two has =
      let disk : IbmDisk = record { cylinders = n.cylinders; heads = n.heads; rate = n.rate; track = track } in
      let made : sound disk ≡ disk = is-sound disk some few one two (fills n.rate n.sectors n.first_sector has.size track has.is) in record {
        made = made;
        cylinders = ap (λ (d : IbmDisk). d.cylinders) made;
        some_cylinders = some;
        few_cylinders = few;
        heads = ap (λ (d : IbmDisk). d.heads) made;
        some_heads = one;
        few_heads = two;
        rate = ap (λ (d : IbmDisk). d.rate) made;
        track = subst (λ (t : TrackNumbers). HasTrack n t) (sym (ap (λ (d : IbmDisk). d.track) made)) has;
      }

  -- each number of a disk fits
  disk-fits : (disk : IbmDisk) → IsDiskOf n disk → first_unfit n ≡ None
  disk-fits disk is =
      let has = is.track in
      let tests = chosen (nat_le 1 n.sectors) (nat_le n.sectors 32) (nat_le (n.first_sector + n.sectors) 256)
      (track_at (density_of n.rate) (record { rate = n.rate; sectors = n.sectors; first_sector = n.first_sector; size = has.size })) (track_of_disk disk) has.is in
      let sized : size_with n.sector_bytes ≡ Some has.size = size-some n.sector_bytes has.size has.bytes in
      none-unfit (fits n Cylinders) (fits n Heads) (fits n Sectors) (fits n SectorBytes) (fits n LastSector) (fits n Track)
      (few-cylinders n.cylinders is.some_cylinders is.few_cylinders) (few-heads n.heads is.some_heads is.few_heads) (and_from _ _ tests.0 tests.1)
      (ap is_some sized) (le-leb _ _ (last-few (leb-true _ _ tests.2)))
      (ap (λ (o : Option SectorSize). is_some (option_and_then (track_of n.rate n.sectors n.first_sector) o)) sized ∙ ap is_some has.is)
    where
      last-few : n.first_sector + n.sectors ≤ 256 → last_sector n ≤ 255
      last-few few = omega (arith, few)

  -- and where each does, there is one
  fits-disk : first_unfit n ≡ None → (disk : IbmDisk) × IsDiskOf n disk
  fits-disk is =
      let all = all-fit (fits n Cylinders) (fits n Heads) (fits n Sectors) (fits n SectorBytes) (fits n LastSector) (fits n Track) is in
      by_size (cylinders-few n.cylinders all.0) (heads-few n.heads all.1) (size_with n.sector_bytes) refl all.5
    where
      by_track : (1 ≤ n.cylinders) × (n.cylinders ≤ 99) → (1 ≤ n.heads) × (n.heads ≤ 2) → (size : SectorSize) (o : Option TrackNumbers) → size_with n.sector_bytes ≡ Some size
          → track_of n.rate n.sectors n.first_sector size ≡ o → is_some o ≡ true → (disk : IbmDisk) × IsDiskOf n disk
      by_track cylinders heads size (Some track) sized at some = (
        record { cylinders = n.cylinders; heads = n.heads; rate = n.rate; track = track },
        the_disk track cylinders.0 cylinders.1 heads.0 heads.1 (record { size = size; bytes = size-has n.sector_bytes size sized; is = at }),
      )
      by_track cylinders heads size None sized at some = absurd (cc)

      by_size : (1 ≤ n.cylinders) × (n.cylinders ≤ 99) → (1 ≤ n.heads) × (n.heads ≤ 2) → (o : Option SectorSize) → size_with n.sector_bytes ≡ o
          → is_some (option_and_then (track_of n.rate n.sectors n.first_sector) o) ≡ true → (disk : IbmDisk) × IsDiskOf n disk
      by_size cylinders heads (Some size) sized some = by_track cylinders heads size (track_of n.rate n.sectors n.first_sector size) sized refl some
      by_size cylinders heads None sized some = absurd (cc)

pub unfit_no_disk : UnfitIsNoDisk
unfit_no_disk n = (fits-disk n, λ has. disk-fits n has.0 has.1)
