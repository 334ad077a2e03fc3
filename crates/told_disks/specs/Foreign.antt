-- The disks that the sets of a rate tell whose headers name other heads than the drive's: by the sets
-- of what names the first head on both, and of what names on each head the other one.
use Rattle.std.specs.Prelude.{◌≡◌, ◌≤◌, ◌%◌, ◌⊎◌, ℕ, Bool, List, Option, Some, None}
use Rattle.ibm_disks.specs.declared.disk.IbmDisk.{IbmDisk}
use Rattle.ibm_disks.specs.declared.rate.Rate.{Rate}
use Rattle.ibm_disks.specs.declared.sector_size.SectorSize.{SectorSize}
use Rattle.track_shelf.specs.declared.stepping.Stepping.{Stepping}
use Rattle.told_disks.specs.Disks.{AreOfKinds, IsToldDisk}
use Rattle.told_disks.specs.Names.{HasAny, set_at}
use Rattle.told_disks.specs.Told.{sets_by}
use Rattle.told_disks.specs.declared.foreign.ForeignDisk.{ForeignDisk}
use Rattle.told_disks.specs.declared.heads.NamedHeads.{NamedHeads}
use Rattle.told_disks.specs.declared.heads.NamedHeads.TheVariants.{Changed, First}

-- a track of the first head has a number
abbrev pub NamesSecond : (sets : List (List Bool)) → SectorSize → Type 0
NamesSecond sets size = (track : ℕ) × (track % 2 ≡ 0) × HasAny (set_at sets track) size

-- a disk of one head whose headers name the first names no other
abbrev pub HasOthers : NamedHeads → IbmDisk → Type 0
HasOthers First disk = 2 ≤ disk.heads
HasOthers heads disk = Unit {0}

-- a disk of these heads
pub record IsDiskAt (heads : NamedHeads) (rate : Rate) (size : SectorSize) (stepping : Stepping)
    (one two : List (List Bool)) (disk : ForeignDisk) : Type 0 where
  pub heads_are : disk.heads ≡ heads
  pub told : IsToldDisk heads rate size stepping one two disk.disk
  pub others : HasOthers heads disk.disk.disk

abbrev pub IsDiskIf : NamedHeads → Rate → SectorSize → Stepping → (one two : List (List Bool))
    → Option ForeignDisk → Type 0
IsDiskIf heads rate size stepping one two None =
    (disk : ForeignDisk) → IsDiskAt heads rate size stepping one two disk → ⊥
IsDiskIf heads rate size stepping one two (Some disk) =
    IsDiskAt heads rate size stepping one two disk

-- The disk of a size and a step, or that there is none: heads are changed where a track of the first
-- head names the second, else it is the first that is always named.
abbrev pub IsForeignIf : Rate → (first_one first_two changed_one changed_two : List (List Bool))
    → SectorSize → Stepping → Option ForeignDisk → Type 0
IsForeignIf rate first_one first_two changed_one changed_two size stepping disk =
    (NamesSecond (sets_by stepping changed_one changed_two) size
    × IsDiskIf Changed rate size stepping changed_one changed_two disk)
    ⊎ ((NamesSecond (sets_by stepping changed_one changed_two) size → ⊥)
    × IsDiskIf First rate size stepping first_one first_two disk)

-- those of all sizes and steps
abbrev pub AreForeignDisks : Rate → (first_one first_two changed_one changed_two : List (List Bool))
    → List ForeignDisk → Type 0
AreForeignDisks rate first_one first_two changed_one changed_two disks =
    AreOfKinds (IsForeignIf rate first_one first_two changed_one changed_two) disks
