-- What the sets of a rate come to.
use Rattle.std.specs.Prelude.{◌≡◌, Bool, List}
use Rattle.ibm_disks.specs.declared.rate.Rate.{Rate}
use Rattle.told_disks.specs.Disks.{AreToldDisks}
use Rattle.told_disks.specs.Foreign.{AreForeignDisks}
use Rattle.told_disks.specs.declared.disks.NumberedDisk.{NumberedDisk}
use Rattle.told_disks.specs.declared.foreign.ForeignDisk.{ForeignDisk}

-- they tell one list of disks
abbrev pub ToldDisksAreOne : Type 0
ToldDisksAreOne = (rate : Rate) (one two : List (List Bool)) (disks others : List NumberedDisk)
    → AreToldDisks rate one two disks → AreToldDisks rate one two others → disks ≡ others

-- and one of those whose headers name other heads
abbrev pub ForeignDisksAreOne : Type 0
ForeignDisksAreOne =
    (rate : Rate) (first_one first_two changed_one changed_two : List (List Bool))
    (disks others : List ForeignDisk)
    → AreForeignDisks rate first_one first_two changed_one changed_two disks
    → AreForeignDisks rate first_one first_two changed_one changed_two others → disks ≡ others
