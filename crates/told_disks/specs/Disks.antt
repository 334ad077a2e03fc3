-- The disks that the sets of a rate tell: for each size and each step of the drive one or none.
use Rattle.std.specs.Prelude.{◌≡◌, ◌+◌, ◌-◌, Bool, false, flat_map, List, [], ◌∷◌, Option, Some}
use Rattle.std.specs.Prelude.{None, option_to_list}
use Rattle.ibm_disks.specs.Disks.{IsDiskOf}
use Rattle.ibm_disks.specs.Numbers.{size_of}
use Rattle.ibm_disks.specs.declared.rate.Rate.{Rate}
use Rattle.ibm_disks.specs.declared.sector_size.SectorSize.{SectorSize}
use Rattle.ibm_disks.specs.declared.sector_size.SectorSize.TheVariants.{Bytes128, Bytes256}
use Rattle.ibm_disks.specs.declared.sector_size.SectorSize.TheVariants.{Bytes512, Bytes1024}
use Rattle.ibm_disks.specs.declared.word.DiskNumbers.{DiskNumbers}
use Rattle.track_shelf.specs.declared.stepping.Stepping.{Stepping}
use Rattle.track_shelf.specs.declared.stepping.Stepping.TheVariants.{Single, Double}
use Rattle.told_disks.specs.Named.{is_covered}
use Rattle.told_disks.specs.Told.{IsLookedAt, Tells, sets_by}
use Rattle.told_disks.specs.declared.disks.NumberedDisk.{NumberedDisk}
use Rattle.told_disks.specs.declared.heads.NamedHeads.{NamedHeads}
use Rattle.told_disks.specs.declared.heads.NamedHeads.TheVariants.{Own}
use Rattle.told_disks.specs.declared.told.Told.{Told}

-- the numbers of a disk of which these are told: its sectors have all numbers from the least that
-- counts to the greatest
abbrev pub numbers_of : Rate → SectorSize → Told → DiskNumbers
numbers_of rate size told = record {
  rate = rate;
  cylinders = told.cylinders;
  heads = told.heads;
  sectors = told.last + 1 - told.first;
  sector_bytes = size_of size;
  first_sector = told.first;
}

-- The disk of a size and a step whose headers name these heads: what is told are the numbers of a
-- disk, and no disk that has a name covers them.
pub record IsToldDisk (heads : NamedHeads) (rate : Rate) (size : SectorSize) (stepping : Stepping)
    (one two : List (List Bool)) (disk : NumberedDisk) : Type 0 where
  pub looked_at : IsLookedAt stepping one two size
  pub told : Told
  pub tells : Tells (sets_by stepping one two) size told
  pub not_covered : is_covered heads stepping (numbers_of rate size told) ≡ false
  pub stepping_is : disk.stepping ≡ stepping
  pub is : IsDiskOf (numbers_of rate size told) disk.disk

-- it, or that there is none
abbrev pub IsToldIf : NamedHeads → Rate → SectorSize → Stepping → (one two : List (List Bool))
    → Option NumberedDisk → Type 0
IsToldIf heads rate size stepping one two None =
    (disk : NumberedDisk) → IsToldDisk heads rate size stepping one two disk → ⊥
IsToldIf heads rate size stepping one two (Some disk) =
    IsToldDisk heads rate size stepping one two disk

-- each size by each step, in their order
abbrev pub kinds : List (SectorSize × Stepping)
kinds =
    (Bytes128, Single) ∷ (Bytes128, Double) ∷ (Bytes256, Single) ∷ (Bytes256, Double)
    ∷ (Bytes512, Single) ∷ (Bytes512, Double) ∷ (Bytes1024, Single) ∷ (Bytes1024, Double) ∷ []

-- of each size by each step one or none, and a list of those that are there
pub record AreOfKinds {Disk : Type 0} (IsIf : SectorSize → Stepping → Option Disk → Type 0)
    (disks : List Disk) : Type 0 where
  pub each : SectorSize → Stepping → Option Disk
  pub told : (size : SectorSize) (stepping : Stepping) → IsIf size stepping (each size stepping)
  pub are : disks ≡ flat_map (λ kind. option_to_list (each kind.0 kind.1)) kinds

-- the disks whose headers name the drive's heads
abbrev pub AreToldDisks : Rate → (one two : List (List Bool)) → List NumberedDisk → Type 0
AreToldDisks rate one two disks =
    AreOfKinds (λ size stepping disk. IsToldIf Own rate size stepping one two disk) disks
