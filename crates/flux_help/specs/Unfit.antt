-- Why numbers are no disk's (own): the first of them that does not fit.
use Rattle.std.specs.Prelude.{◌≡◌, ◌↔◌, ℕ, ◌+◌, ◌-◌, ◌&&◌, Bool, not, is_some, nat_eq, nat_le, List}
use Rattle.std.specs.Prelude.{[], ◌∷◌, ◌++◌, codes, decimal, find, Option, None}
use Rattle.std.specs.Option.{option_and_then}
use Rattle.ibm_disks.specs.Disks.{IsDiskOf, are_few}
use Rattle.ibm_disks.specs.Numbers.{size_of}
use Rattle.ibm_disks.specs.GapPlans.{track_bytes, track_of}
use Rattle.ibm_disks.specs.declared.disk.IbmDisk.{IbmDisk}
use Rattle.ibm_disks.specs.declared.sector_size.SectorSize.{SectorSize}
use Rattle.ibm_disks.specs.declared.sector_size.SectorSize.TheVariants.{Bytes128, Bytes256}
use Rattle.ibm_disks.specs.declared.sector_size.SectorSize.TheVariants.{Bytes512, Bytes1024}
use Rattle.ibm_disks.specs.declared.word.DiskNumbers.{DiskNumbers}
use Rattle.flux_help.specs.declared.unfit.TheConstants.{CYLINDERS_ARE, HEADS_ARE, SECTORS_ARE}
use Rattle.flux_help.specs.declared.unfit.TheConstants.{SECTOR_BYTES_ARE, LAST_SECTOR_IS}
use Rattle.flux_help.specs.declared.unfit.Unfit.{Unfit}
use Rattle.flux_help.specs.declared.unfit.Unfit.TheVariants.{Cylinders, Heads, Sectors, SectorBytes}
use Rattle.flux_help.specs.declared.unfit.Unfit.TheVariants.{LastSector, Track}

-- the size of so many bytes
abbrev pub size_with : ℕ → Option SectorSize
size_with bytes =
    find (λ size. nat_eq (size_of size) bytes) (Bytes128 ∷ Bytes256 ∷ Bytes512 ∷ Bytes1024 ∷ [])

-- the number of the last sector
abbrev pub last_sector : DiskNumbers → ℕ
last_sector n = n.first_sector + n.sectors - 1

-- a number fits
abbrev pub fits : DiskNumbers → Unfit → Bool
fits n Cylinders = are_few n.cylinders 1
fits n Heads = are_few 1 n.heads
fits n Sectors = nat_le 1 n.sectors && nat_le n.sectors 32
fits n SectorBytes = is_some (size_with n.sector_bytes)
fits n LastSector = nat_le (last_sector n) 255
fits n Track =
    is_some (option_and_then (track_of n.rate n.sectors n.first_sector) (size_with n.sector_bytes))

-- the first of some that does not
abbrev pub first_of : List Unfit → DiskNumbers → Option Unfit
first_of numbers n = find (λ number. not (fits n number)) numbers

-- in the order in which a word has them, and last whether a track has room for its sectors
abbrev pub first_unfit : DiskNumbers → Option Unfit
first_unfit n = first_of (Cylinders ∷ Heads ∷ Sectors ∷ SectorBytes ∷ LastSector ∷ Track ∷ []) n

-- each number fits just where the numbers are a disk's
abbrev pub UnfitIsNoDisk : Type 0
UnfitIsNoDisk = (n : DiskNumbers) → first_unfit n ≡ None ↔ ((disk : IbmDisk) × IsDiskOf n disk)

-- what is said of it
abbrev pub last_sector_text : DiskNumbers → List ℕ
last_sector_text n = LAST_SECTOR_IS.now ++ decimal (last_sector n)

abbrev pub track_text : DiskNumbers → List ℕ
track_text n =
    decimal n.sectors ++ codes " sectors of " ++ decimal n.sector_bytes
    ++ codes " bytes do not fit on a track of "
    ++ decimal (track_bytes n.rate)

abbrev pub unfit_text : Unfit → DiskNumbers → List ℕ
unfit_text Cylinders n = CYLINDERS_ARE.now ++ decimal n.cylinders
unfit_text Heads n = HEADS_ARE.now ++ decimal n.heads
unfit_text Sectors n = SECTORS_ARE.now ++ decimal n.sectors
unfit_text SectorBytes n = SECTOR_BYTES_ARE.now ++ decimal n.sector_bytes
unfit_text LastSector n = last_sector_text n
unfit_text Track n = track_text n
