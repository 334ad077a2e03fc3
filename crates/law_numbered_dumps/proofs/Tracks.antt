-- The tracks of a disk by its numbers, and what its numbers say of them.
use Rattle.std.proofs.Common.{◌≡◌, ◌<◌, ◌+◌, ◌∙◌, ◌&&◌, ℕ, Bool, true, false, length, map, Option, Some, None, refl, ap, subst, arith}
use Rattle.std.specs.Prelude.{Contains, IfSome, if◌then◌else◌, nat_le, unwrap_or}
use Rattle.std.specs.List.{range_with_len}
use Rattle.std.proofs.lemmas.List.FromFn.{get_or-map-range_with_len, get_or-range_with_len, length-map-range_with_len, length-range_with_len}
use Rattle.std.proofs.lemmas.Option.{slice_get-get_or}
use Rattle.flux_base.specs.declared.track.TrackId.{TrackId}
use Rattle.flux_engine.specs.Recordings.{track_at}
use Rattle.ibm_disks.specs.Disks.{IsDiskOf, cylinders_of, heads_of, rate_of, track_of_disk}
use Rattle.ibm_disks.specs.GapPlans.{bare_track, density_of, if_wide, indexed_track, track_at as track_made, track_of}
use Rattle.ibm_disks.specs.Numbers.{FM_AROUND, fm_before, mfm_around, mfm_before, size_of}
use Rattle.ibm_disks.specs.declared.disk.IbmDisk.{IbmDisk}
use Rattle.ibm_disks.specs.declared.rate.Density.{Density}
use Rattle.ibm_disks.specs.declared.rate.Density.TheVariants.{Single as SingleDensity, Double as DoubleDensity}
use Rattle.ibm_disks.specs.declared.rate.Rate.{Rate}
use Rattle.ibm_disks.specs.declared.sector_size.SectorSize.{SectorSize}
use Rattle.ibm_disks.specs.declared.track_numbers.LeadIn.TheVariants.{Indexed}
use Rattle.ibm_disks.specs.declared.track_numbers.TrackNumbers.{TrackNumbers}
use Rattle.ibm_disks.specs.declared.word.DiskNumbers.{DiskNumbers}
use Rattle.sector_images.specs.Places.{IsTrack, tracks}
use Rattle.sector_images.specs.declared.format.Format.TheVariants.{Numbered}
use Rattle.law_numbered_dumps.proofs.Listed.{flat_has, same_numbers}

-- each track of a disk has a number
module _ (disk : IbmDisk) where
  listed : (track : TrackId) → IsTrack (Numbered disk) track → Contains (tracks (Numbered disk)) track
  listed track known =
      let side : ℕ → ℕ → TrackId = λ cylinder head. record { cylinder = cylinder; head = head } in
      let rows = cylinders_of disk in
      let sides = heads_of disk in
      flat_has (λ cylinder. map (side cylinder) (range_with_len 0 sides)) (range_with_len 0 rows) track.cylinder track
      (track.cylinder, (let size = length-range_with_len 0 rows in let low = known.0 in omega (arith, size, low)), get_or-range_with_len 0 rows track.cylinder track.cylinder known.0 ∙ omega arith) (
        track.head,
        (let size = length-map-range_with_len (side track.cylinder) 0 sides in let low = known.1 in omega (arith, size, low)),
        get_or-map-range_with_len (side track.cylinder) 0 sides track.head track.head track known.1 (omega arith),
      )

  pub has_number : (track : TrackId) → IsTrack (Numbered disk) track → (n : ℕ) × (n < length (tracks (Numbered disk))) × (track_at (Numbered disk) n ≡ track)
  has_number track known =
      let at = listed track known in (
        at.0,
        at.1,
        ap (λ (t : Option TrackId). unwrap_or t (record { cylinder = 0; head = 0 })) (slice_get-get_or (tracks (Numbered disk)) at.0 track at.1) ∙ at.2,
      )

-- a track that numbers make has these sectors
record IsMadeOf (sectors first : ℕ) (size : SectorSize) (track : TrackNumbers) : Type 0 where
  sectors_are : track.sectors ≡ sectors
  first_is : track.first_sector ≡ first
  size_is : track.size ≡ size

chosen : (P : TrackNumbers → Type 0) (least : ℕ) (track : TrackNumbers) (other : Option TrackNumbers) → P track → IfSome other P → IfSome (if_wide least track other) P
chosen P least track other one rest = by (nat_le least track.sector_gap)
  where
    by : (wide : Bool) → IfSome (if wide then Some track else other) P
    by true = one
    by false = rest

module _ (rate : Rate) (sectors first : ℕ) (size : SectorSize) where
  made_by : (density : Density) → IfSome (track_made density (record { rate = rate; sectors = sectors; first_sector = first; size = size })) (IsMadeOf sectors first size)
  made_by DoubleDensity =
      chosen (IsMadeOf sectors first size) 10 (indexed_track (mfm_before Indexed) (mfm_around Indexed) (record { rate = rate; sectors = sectors; first_sector = first; size = size }))
      (if_wide 1 (bare_track (record { rate = rate; sectors = sectors; first_sector = first; size = size })) None)
      (record { sectors_are = refl; first_is = refl; size_is = refl })
      (chosen (IsMadeOf sectors first size) 1 (bare_track (record { rate = rate; sectors = sectors; first_sector = first; size = size })) None
      (record { sectors_are = refl; first_is = refl; size_is = refl }) tt)
  made_by SingleDensity =
      chosen (IsMadeOf sectors first size) 4 (indexed_track (fm_before Indexed) FM_AROUND (record { rate = rate; sectors = sectors; first_sector = first; size = size })) None
      (record { sectors_are = refl; first_is = refl; size_is = refl }) tt

  is_made : (track : TrackNumbers) → track_of rate sectors first size ≡ Some track → IsMadeOf sectors first size track
  is_made track made =
      subst (λ (o : Option TrackNumbers). IfSome o (IsMadeOf sectors first size)) made (by (nat_le 1 sectors && nat_le sectors 32 && nat_le (first + sectors) 256))
    where
      by : (few : Bool) → IfSome (if few then track_made (density_of rate) (record { rate = rate; sectors = sectors; first_sector = first; size = size }) else None) (IsMadeOf sectors first size)
      by true = made_by (density_of rate)
      by false = tt

-- the sectors of a disk are those of its numbers
module _ (numbers : DiskNumbers) (disk : IbmDisk) (is : IsDiskOf numbers disk) where
  parts : IsMadeOf numbers.sectors numbers.first_sector is.track.size (track_of_disk disk)
  parts = is_made numbers.rate numbers.sectors numbers.first_sector is.track.size (track_of_disk disk) is.track.is

  pub numbers_are : (let n : DiskNumbers = record {
    rate = rate_of disk;
    cylinders = cylinders_of disk;
    heads = heads_of disk;
    sectors = (track_of_disk disk).sectors;
    sector_bytes = size_of (track_of_disk disk).size;
    first_sector = (track_of_disk disk).first_sector;
  } in n) ≡ numbers
  numbers_are =
      same_numbers
      (record {
        rate = rate_of disk;
        cylinders = cylinders_of disk;
        heads = heads_of disk;
        sectors = (track_of_disk disk).sectors;
        sector_bytes = size_of (track_of_disk disk).size;
        first_sector = (track_of_disk disk).first_sector;
      }) numbers is.rate is.cylinders is.heads parts.sectors_are (ap size_of parts.size_is ∙ is.track.bytes) parts.first_is
