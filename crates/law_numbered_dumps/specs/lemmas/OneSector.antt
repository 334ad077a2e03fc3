-- The disk with one sector of a rate and a size, by whose recording and clock names are read.
use Rattle.std.proofs.Common.{◌≡◌, ap, refl}
use Rattle.ibm_disks.specs.Disks.{is_disk, rate_of, sound, track_of_disk}
use Rattle.ibm_disks.specs.GapPlans.{track_bytes}
use Rattle.ibm_disks.specs.declared.disk.IbmDisk.{IbmDisk}
use Rattle.ibm_disks.specs.declared.rate.Rate.{Rate}
use Rattle.ibm_disks.specs.declared.rate.Rate.TheVariants.{Double, High, HighAt360, Single}
use Rattle.ibm_disks.specs.declared.rate.Rate.TheVariants.{SingleAt360}
use Rattle.ibm_disks.specs.declared.sector_size.SectorSize.{SectorSize}
use Rattle.ibm_disks.specs.declared.sector_size.SectorSize.TheVariants.{Bytes128, Bytes256}
use Rattle.ibm_disks.specs.declared.sector_size.SectorSize.TheVariants.{Bytes512, Bytes1024}
use Rattle.dump_numbers.specs.Rates.{disk_with_one}

is_sound : (rate : Rate) (size : SectorSize)
    → sound (disk_with_one rate size) ≡ disk_with_one rate size
unfolding sound is_disk
is_sound Double Bytes128 = refl
is_sound Double Bytes256 = refl
is_sound Double Bytes512 = refl
is_sound Double Bytes1024 = refl
is_sound High Bytes128 = refl
is_sound High Bytes256 = refl
is_sound High Bytes512 = refl
is_sound High Bytes1024 = refl
is_sound HighAt360 Bytes128 = refl
is_sound HighAt360 Bytes256 = refl
is_sound HighAt360 Bytes512 = refl
is_sound HighAt360 Bytes1024 = refl
is_sound Single Bytes128 = refl
is_sound Single Bytes256 = refl
is_sound Single Bytes512 = refl
is_sound Single Bytes1024 = refl
is_sound SingleAt360 Bytes128 = refl
is_sound SingleAt360 Bytes256 = refl
is_sound SingleAt360 Bytes512 = refl
is_sound SingleAt360 Bytes1024 = refl

-- it has the rate and the size, and its ring's bytes are the rate's
pub its_rate : (rate : Rate) (size : SectorSize) → rate_of (disk_with_one rate size) ≡ rate
its_rate rate size = ap (λ (d : IbmDisk). d.rate) (is_sound rate size)

pub its_size : (rate : Rate) (size : SectorSize)
    → (track_of_disk (disk_with_one rate size)).size ≡ size
its_size rate size = ap (λ (d : IbmDisk). d.track.size) (is_sound rate size)

pub its_bytes : (rate : Rate) (size : SectorSize)
    → (track_of_disk (disk_with_one rate size)).bytes ≡ track_bytes rate
its_bytes rate size = ap (λ (d : IbmDisk). d.track.bytes) (is_sound rate size)
