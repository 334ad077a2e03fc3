-- What holds of every disk.
use Rattle.std.specs.Prelude.{◌≡◌, ℕ, ◌+◌, ◌≤◌, Bool, true, false, ◌&&◌, nat_eq, nat_le, nat_lt}
use Rattle.std.specs.Prelude.{if◌then◌else◌, refl}
use Rattle.std.proofs.Common.{ap}
use Rattle.std.proofs.lemmas.Bool.{eq-eqb, eqb-true, le-leb, leb-true, lt-ltb, ltb-true}
use Rattle.ibm_disks.specs.declared.disk.IbmDisk.{IbmDisk}
use Rattle.ibm_disks.specs.declared.rate.Density.{Density}
use Rattle.ibm_disks.specs.declared.rate.Density.TheVariants.{Single as SingleDensity}
use Rattle.ibm_disks.specs.declared.rate.Density.TheVariants.{Double as DoubleDensity}
use Rattle.ibm_disks.specs.declared.track_numbers.TrackNumbers.{TrackNumbers}
use Rattle.ibm_disks.specs.Disks.{AllHaveDisks, are_few, fill_at, fill_track, is_disk, pc_720}
use Rattle.ibm_disks.specs.Disks.{sound}
use Rattle.ibm_disks.specs.Numbers.{FM_AROUND, FillTrack, fm_before, mfm_around, mfm_before, used}
use Rattle.ibm_disks.specs.GapPlans.{FillAt, FillsTrackOf, density_of, track_bytes}

both : (a b : Bool) → (a && b) ≡ true → (a ≡ true) × (b ≡ true)
both true true is = (refl, refl)
both true false is = absurd (cc)
both false b is = absurd (cc)

all : (a b : Bool) → a ≡ true → b ≡ true → (a && b) ≡ true
all a b first second = rw (first, second) refl

pub fill-track : (before around : ℕ) (track : TrackNumbers) → fill_track before around track ≡ true
    → FillTrack before around track
fill-track before around track is =
    let short = both _ (nat_le track.bytes 16384) is in
    let within = both _ (nat_lt (used before around track) track.bytes) short.0 in
    let few =
    both (nat_le 1 track.sectors) (nat_le (track.first_sector + track.sectors) 256) within.0 in
    record {
      some = leb-true _ _ few.0;
      few = leb-true _ _ few.1;
      within = ltb-true _ _ within.1;
      short = leb-true _ _ short.1;
    }

pub track-fills : (before around : ℕ) (track : TrackNumbers) → FillTrack before around track
    → fill_track before around track ≡ true
track-fills before around track fills =
    all _ _
    (all _ _ (all _ _ (le-leb _ _ fills.some) (le-leb _ _ fills.few)) (lt-ltb _ _ fills.within))
    (le-leb _ _ fills.short)

pub fill-at : (density : Density) (track : TrackNumbers) → fill_at density track ≡ true
    → FillAt density track
fill-at DoubleDensity track is =
    fill-track (mfm_before track.lead_in) (mfm_around track.lead_in) track is
fill-at SingleDensity track is = fill-track (fm_before track.lead_in) FM_AROUND track is

pub at-fills : (density : Density) (track : TrackNumbers) → FillAt density track
    → fill_at density track ≡ true
at-fills DoubleDensity track fills =
    track-fills (mfm_before track.lead_in) (mfm_around track.lead_in) track fills
at-fills SingleDensity track fills = track-fills (fm_before track.lead_in) FM_AROUND track fills

-- the fixed disk is one, so that every value means one
known : is_disk pc_720 ≡ true
unfolding is_disk
known = refl

pub sound-disk : (disk : IbmDisk) → is_disk (sound disk) ≡ true
unfolding sound
sound-disk disk = by (is_disk disk) refl
  where
    by : (b : Bool) → is_disk disk ≡ b → is_disk (if b then disk else pc_720) ≡ true
    by true is = is
    by false is = known

pub few-parts : (cylinders heads : ℕ) → are_few cylinders heads ≡ true
    → (1 ≤ cylinders) × (cylinders ≤ 99) × (1 ≤ heads) × (heads ≤ 2)
few-parts cylinders heads is =
    let most = both _ (nat_le heads 2) is in
    let some = both _ (nat_le 1 heads) most.0 in
    let few = both (nat_le 1 cylinders) (nat_le cylinders 99) some.0 in
    (leb-true _ _ few.0, leb-true _ _ few.1, leb-true _ _ some.1, leb-true _ _ most.1)

has-disk : (disk : IbmDisk) → is_disk disk ≡ true
    → (are_few disk.cylinders disk.heads ≡ true) × (disk.track.bytes ≡ track_bytes disk.rate)
    × (fill_at (density_of disk.rate) disk.track ≡ true)
unfolding is_disk
has-disk disk is =
    let last = both _ (fill_at (density_of disk.rate) disk.track) is in
    let first = both (are_few disk.cylinders disk.heads)
    (nat_eq disk.track.bytes (track_bytes disk.rate)) last.0 in
    (first.0, eqb-true _ _ first.1, last.1)

-- numbers that are a disk's mean it
pub is-sound : (disk : IbmDisk) → 1 ≤ disk.cylinders → disk.cylinders ≤ 99 → 1 ≤ disk.heads
    → disk.heads ≤ 2 → FillsTrackOf disk.rate disk.track
    → sound disk ≡ disk
unfolding sound is_disk
is-sound disk some few one two fills =
    let counts : are_few disk.cylinders disk.heads ≡ true =
    all _ _ (all _ _ (all _ _ (le-leb _ _ some) (le-leb _ _ few)) (le-leb _ _ one))
    (le-leb _ _ two) in
    let is = all _ _ (all _ _ counts (eq-eqb _ _ fills.1))
    (at-fills (density_of disk.rate) disk.track fills.0) in
    ap (λ (b : Bool). if b then disk else pc_720) is

pub all_have_disks : AllHaveDisks
all_have_disks disk =
    let has = has-disk (sound disk) (sound-disk disk) in
    let few = few-parts (sound disk).cylinders (sound disk).heads has.0 in record {
      some_cylinders = few.0;
      few_cylinders = few.1;
      some_heads = few.2;
      few_heads = few.3;
      fills = (fill-at (density_of (sound disk).rate) (sound disk).track has.2, has.1);
    }
