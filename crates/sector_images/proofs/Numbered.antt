-- What holds of every disk by its numbers.
use Rattle.std.specs.Prelude.{◌≡◌, ℕ, zero, suc, ◌+◌, ◌*◌, ◌<◌, ◌≤◌}
use Rattle.std.proofs.Common.{ap, sym, ◌∙◌, arith, lit≤}
use Rattle.std.proofs.Math.Nat.{mul-le-mul_left, suc-mul, zero-mul}
use Rattle.ibm_disks.specs.Disks.{cylinders_of, heads_of, rate_of, track_of_disk}
use Rattle.ibm_disks.specs.Numbers.{FillFmTrack, FillMfmTrack, fm_before, mfm_around, mfm_before, size_of}
use Rattle.ibm_disks.specs.GapPlans.{FillAt, FillsTrackOf, density_of, track_bytes}
use Rattle.ibm_disks.specs.declared.disk.IbmDisk.{IbmDisk}
use Rattle.ibm_disks.specs.declared.rate.Density.{Density}
use Rattle.ibm_disks.specs.declared.rate.Density.TheVariants.{Single as SingleDensity, Double as DoubleDensity}
use Rattle.ibm_disks.specs.declared.rate.Rate.{Rate}
use Rattle.ibm_disks.specs.declared.rate.Rate.TheVariants.{Double, High, HighAt360, Single, SingleAt360}
use Rattle.ibm_disks.specs.declared.sector_size.SectorSize.{SectorSize}
use Rattle.ibm_disks.specs.declared.sector_size.SectorSize.TheVariants.{Bytes128, Bytes256, Bytes512, Bytes1024}
use Rattle.ibm_disks.specs.declared.track_numbers.LeadIn.{LeadIn}
use Rattle.ibm_disks.specs.declared.track_numbers.LeadIn.TheVariants.{Indexed, Bare}
use Rattle.ibm_disks.specs.declared.track_numbers.TrackNumbers.{TrackNumbers}
use Rattle.ibm_disks.specs.lemmas.DiskLaws.{all_have_disks}
use Rattle.sector_images.specs.Formats.{cell_of}
use Rattle.sector_images.specs.Places.{sectors_before}
use Rattle.sector_images.specs.declared.format.Format.TheVariants.{Numbered}

-- so many sectors of a size, each with so many bytes around it at least, have few bytes
abbrev Few : ℕ → SectorSize → Type 0
Few sectors size = (sectors ≤ 77) × (sectors * size_of size ≤ 11264)

double_few : (size : SectorSize) (sectors : ℕ) → sectors * (53 + size_of size) < 12490 → Few sectors size
double_few Bytes128 sectors within = (omega (arith, within), omega (arith, within))
double_few Bytes256 sectors within = (omega (arith, within), omega (arith, within))
double_few Bytes512 sectors within = (omega (arith, within), omega (arith, within))
double_few Bytes1024 sectors within = (omega (arith, within), omega (arith, within))

single_few : (size : SectorSize) (sectors : ℕ) → sectors * (33 + size_of size) < 5192 → Few sectors size
single_few Bytes128 sectors within = (omega (arith, within), omega (arith, within))
single_few Bytes256 sectors within = (omega (arith, within), omega (arith, within))
single_few Bytes512 sectors within = (omega (arith, within), omega (arith, within))
single_few Bytes1024 sectors within = (omega (arith, within), omega (arith, within))

-- what stands before and around the sectors, at least
mfm_least : (lead_in : LeadIn) → (10 ≤ mfm_before lead_in) × (53 ≤ mfm_around lead_in)
mfm_least Indexed = (lit≤ tt, lit≤ tt)
mfm_least Bare = (lit≤ tt, lit≤ tt)

fm_least : (lead_in : LeadIn) → 16 ≤ fm_before lead_in
fm_least Indexed = lit≤ tt
fm_least Bare = lit≤ tt

mfm_few : (track : TrackNumbers) → FillMfmTrack track → track.bytes ≤ 12500 → Few track.sectors track.size
mfm_few track fills most =
    let least = mfm_least track.lead_in in
    let size : ℕ = size_of track.size in
    let each : track.sectors * (53 + size) ≤ track.sectors * (mfm_around track.lead_in + size + track.sector_gap) =
    mul-le-mul_left track.sectors (omega (arith, least.1)) in
    double_few track.size track.sectors (omega (arith, each, fills.within, least.0, most))

fm_few : (track : TrackNumbers) → FillFmTrack track → track.bytes ≤ 5208 → Few track.sectors track.size
fm_few track fills most =
    let least = fm_least track.lead_in in
    let size : ℕ = size_of track.size in
    let each : track.sectors * (33 + size) ≤ track.sectors * (33 + size + track.sector_gap) = mul-le-mul_left track.sectors (omega arith) in
    single_few track.size track.sectors (omega (arith, each, fills.within, least, most))

-- the bounds that a track keeps to
pub record TrackBounds (rate : Rate) (track : TrackNumbers) : Type 0 where
  pub few : Few track.sectors track.size
  pub some : 1 ≤ track.sectors
  pub numbers : track.first_sector + track.sectors ≤ 256
  pub shortest : 3125 ≤ track.bytes
  pub longest : track.bytes ≤ 12500
  pub shortest_cell : 24604 ≤ cell_of rate
  pub longest_cell : cell_of rate ≤ 98416

-- the most bytes of a track of each density, and the bounds of each rate
abbrev most_bytes : Density → ℕ
most_bytes DoubleDensity = 12500
most_bytes SingleDensity = 5208

rate_bounds : (rate : Rate)
    → (3125 ≤ track_bytes rate) × (track_bytes rate ≤ most_bytes (density_of rate)) × (track_bytes rate ≤ 12500) × (24604 ≤ cell_of rate) × (cell_of rate ≤ 98416)
rate_bounds Double = (lit≤ tt, lit≤ tt, lit≤ tt, lit≤ tt, lit≤ tt)
rate_bounds High = (lit≤ tt, lit≤ tt, lit≤ tt, lit≤ tt, lit≤ tt)
rate_bounds HighAt360 = (lit≤ tt, lit≤ tt, lit≤ tt, lit≤ tt, lit≤ tt)
rate_bounds Single = (lit≤ tt, lit≤ tt, lit≤ tt, lit≤ tt, lit≤ tt)
rate_bounds SingleAt360 = (lit≤ tt, lit≤ tt, lit≤ tt, lit≤ tt, lit≤ tt)

sectors_of : (density : Density) (track : TrackNumbers) → FillAt density track → track.bytes ≤ most_bytes density
    → Few track.sectors track.size × (1 ≤ track.sectors) × (track.first_sector + track.sectors ≤ 256)
sectors_of DoubleDensity track fills most = (mfm_few track fills most, fills.some, fills.few)
sectors_of SingleDensity track fills most = (fm_few track fills most, fills.some, fills.few)

track_bounds : (rate : Rate) (track : TrackNumbers) → FillsTrackOf rate track → TrackBounds rate track
track_bounds rate track fills =
    let bounds = rate_bounds rate in
    let sectors = sectors_of (density_of rate) track fills.0 (omega (arith, fills.1, bounds.1)) in record {
      few = sectors.0;
      some = sectors.1;
      numbers = sectors.2;
      shortest = omega (arith, fills.1, bounds.0);
      longest = omega (arith, fills.1, bounds.2);
      shortest_cell = bounds.3;
      longest_cell = bounds.4;
    }

pub bounds_of : (disk : IbmDisk) → TrackBounds (rate_of disk) (track_of_disk disk)
bounds_of disk = track_bounds (rate_of disk) (track_of_disk disk) (all_have_disks disk).fills

-- all cylinders have as many sectors
pub before_numbered : (disk : IbmDisk) (cylinder : ℕ) → sectors_before (Numbered disk) cylinder ≡ cylinder * (track_of_disk disk).sectors
unfolding sectors_before
before_numbered disk zero = sym (zero-mul (track_of_disk disk).sectors)
before_numbered disk (suc cylinder) =
    ap (λ (n : ℕ). n + (track_of_disk disk).sectors) (before_numbered disk cylinder) ∙ sym (suc-mul cylinder (track_of_disk disk).sectors)

-- so few tracks, and images so small
few_of : (cylinders heads : ℕ) → cylinders ≤ 99 → heads ≤ 2 → cylinders * heads ≤ 198
few_of cylinders heads few two =
    let each : cylinders * heads ≤ cylinders * 2 = mul-le-mul_left cylinders two in
    omega (arith, each, few)

small_of : (cylinders sectors heads size : ℕ) → cylinders ≤ 99 → heads ≤ 2 → sectors * size ≤ 11264 → cylinders * sectors * heads * size ≤ 2230272
small_of cylinders sectors heads size few two small =
    let tracks = few_of cylinders heads few two in
    let all : cylinders * heads * (sectors * size) ≤ cylinders * heads * 11264 = mul-le-mul_left (cylinders * heads) small in
    let turned : cylinders * sectors * heads * size ≡ cylinders * heads * (sectors * size) = omega arith in
    omega (arith, all, turned, tracks)

pub tracks_few : (disk : IbmDisk) → cylinders_of disk * heads_of disk ≤ 198
tracks_few disk =
    let has = all_have_disks disk in
    few_of (cylinders_of disk) (heads_of disk) has.few_cylinders has.few_heads

pub sectors_few : (disk : IbmDisk) → cylinders_of disk * (track_of_disk disk).sectors ≤ 7623
sectors_few disk =
    let few : cylinders_of disk * (track_of_disk disk).sectors ≤ cylinders_of disk * 77 = mul-le-mul_left (cylinders_of disk) (bounds_of disk).few.0 in
    omega (arith, few, (all_have_disks disk).few_cylinders)

pub all_few : (disk : IbmDisk) → cylinders_of disk * (track_of_disk disk).sectors * heads_of disk ≤ 15246
all_few disk =
    let sectors : ℕ = cylinders_of disk * (track_of_disk disk).sectors in
    let two : sectors * heads_of disk ≤ sectors * 2 = mul-le-mul_left sectors (all_have_disks disk).few_heads in
    omega (arith, two, sectors_few disk)

pub image_few : (disk : IbmDisk) → cylinders_of disk * (track_of_disk disk).sectors * heads_of disk * size_of (track_of_disk disk).size ≤ 2230272
image_few disk =
    let has = all_have_disks disk in
    small_of (cylinders_of disk) (track_of_disk disk).sectors (heads_of disk) (size_of (track_of_disk disk).size) has.few_cylinders has.few_heads (bounds_of disk).few.1

-- and few sectors before a cylinder
pub before_few : (disk : IbmDisk) (cylinder : ℕ) → cylinder ≤ cylinders_of disk → sectors_before (Numbered disk) cylinder < 65536
before_few disk cylinder below =
    let few : cylinder * (track_of_disk disk).sectors ≤ cylinder * 77 = mul-le-mul_left cylinder (bounds_of disk).few.0 in
    omega (arith, few, before_numbered disk cylinder, below, (all_have_disks disk).few_cylinders)
