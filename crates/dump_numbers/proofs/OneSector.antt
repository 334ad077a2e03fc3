-- There is one disk of each rate with one sector of a size.
use Rattle.std.proofs.Common.{◌≡◌, ◌∙◌, ap, arith, true, Bool, Some, refl, sym}
use Rattle.std.specs.Prelude.{cond}
use Rattle.ibm_disks.specs.Disks.{IsDiskOf, is_disk, pc_720, sound}
use Rattle.ibm_disks.specs.GapPlans.{track_of}
use Rattle.ibm_disks.specs.declared.disk.IbmDisk.{IbmDisk}
use Rattle.ibm_disks.specs.declared.rate.Rate.{Rate}
use Rattle.ibm_disks.specs.declared.rate.Rate.TheVariants.{Double, High, HighAt360, Single, SingleAt360}
use Rattle.ibm_disks.specs.declared.sector_size.SectorSize.{SectorSize}
use Rattle.ibm_disks.specs.declared.sector_size.SectorSize.TheVariants.{Bytes128, Bytes256, Bytes512, Bytes1024}
use Rattle.dump_numbers.specs.Rates.{disk_with_one, numbers_with_one}

-- numbers that are a disk's, and make its track
made : (disk : IbmDisk) → is_disk disk ≡ true → sound disk ≡ disk
unfolding sound
made disk is = ap (λ (b : Bool). cond b disk pc_720) is

module _ (rate : Rate) (size : SectorSize) where
  abbrev disk : IbmDisk
  disk = disk_with_one rate size

  of_numbers : is_disk disk ≡ true → track_of rate 1 1 size ≡ Some disk.track → IsDiskOf (numbers_with_one rate size) disk
  of_numbers is track =
      let same = made disk is in record {
        made = same;
        cylinders = ap (λ (d : IbmDisk). d.cylinders) same;
        some_cylinders = omega arith;
        few_cylinders = omega arith;
        heads = ap (λ (d : IbmDisk). d.heads) same;
        some_heads = omega arith;
        few_heads = omega arith;
        rate = ap (λ (d : IbmDisk). d.rate) same;
        track = record { size = size; bytes = refl; is = track ∙ ap (λ (d : IbmDisk). Some d.track) (sym same) };
      }

pub disk_is : (rate : Rate) (size : SectorSize) → IsDiskOf (numbers_with_one rate size) (disk_with_one rate size)
unfolding is_disk
disk_is Double Bytes128 = of_numbers Double Bytes128 refl refl
disk_is Double Bytes256 = of_numbers Double Bytes256 refl refl
disk_is Double Bytes512 = of_numbers Double Bytes512 refl refl
disk_is Double Bytes1024 = of_numbers Double Bytes1024 refl refl
disk_is High Bytes128 = of_numbers High Bytes128 refl refl
disk_is High Bytes256 = of_numbers High Bytes256 refl refl
disk_is High Bytes512 = of_numbers High Bytes512 refl refl
disk_is High Bytes1024 = of_numbers High Bytes1024 refl refl
disk_is HighAt360 Bytes128 = of_numbers HighAt360 Bytes128 refl refl
disk_is HighAt360 Bytes256 = of_numbers HighAt360 Bytes256 refl refl
disk_is HighAt360 Bytes512 = of_numbers HighAt360 Bytes512 refl refl
disk_is HighAt360 Bytes1024 = of_numbers HighAt360 Bytes1024 refl refl
disk_is Single Bytes128 = of_numbers Single Bytes128 refl refl
disk_is Single Bytes256 = of_numbers Single Bytes256 refl refl
disk_is Single Bytes512 = of_numbers Single Bytes512 refl refl
disk_is Single Bytes1024 = of_numbers Single Bytes1024 refl refl
disk_is SingleAt360 Bytes128 = of_numbers SingleAt360 Bytes128 refl refl
disk_is SingleAt360 Bytes256 = of_numbers SingleAt360 Bytes256 refl refl
disk_is SingleAt360 Bytes512 = of_numbers SingleAt360 Bytes512 refl refl
disk_is SingleAt360 Bytes1024 = of_numbers SingleAt360 Bytes1024 refl refl
