-- What numbers of a disk the sets of its tracks tell. Track number 2 C + H is that of cylinder C and
-- head H.
use Rattle.std.specs.Prelude.{◌≡◌, ◌<◌, ◌≤◌, ◌⊎◌, ℕ, ◌+◌, ◌/◌, ◌%◌, Bool, List, Option, Some}
use Rattle.std.specs.Prelude.{None}
use Rattle.ibm_disks.specs.declared.sector_size.SectorSize.{SectorSize}
use Rattle.track_shelf.specs.declared.stepping.Stepping.{Stepping}
use Rattle.track_shelf.specs.declared.stepping.Stepping.TheVariants.{Single, Double}
use Rattle.told_disks.specs.Names.{Counts, HasAny, HasCounted, set_at}
use Rattle.told_disks.specs.declared.told.Told.{Told}

-- The least and the greatest number that count, and one more than the greatest cylinder and the
-- greatest head of a track with a number that counts.
pub record Tells (sets : List (List Bool)) (size : SectorSize) (told : Told) : Type 0 where
  pub first : Counts sets size told.first
  pub last : Counts sets size told.last
  pub within : (number : ℕ) → Counts sets size number
      → (told.first ≤ number) × (number ≤ told.last)
  pub cylinder : (track : ℕ) × HasCounted sets size track × (track / 2 + 1 ≡ told.cylinders)
  pub head : (track : ℕ) × HasCounted sets size track × (track % 2 + 1 ≡ told.heads)
  pub reach : (track : ℕ) → HasCounted sets size track
      → (track / 2 < told.cylinders) × (track % 2 < told.heads)

-- they tell none where no track has a number that counts
abbrev pub TellsIf : (sets : List (List Bool)) → SectorSize → Option Told → Type 0
TellsIf sets size None = (track : ℕ) → HasCounted sets size track → ⊥
TellsIf sets size (Some told) = Tells sets size told

-- a track behind cylinder 0 has a number
abbrev pub Reaches : (sets : List (List Bool)) → SectorSize → Type 0
Reaches sets size = (track : ℕ) × (2 ≤ track) × HasAny (set_at sets track) size

-- The sets by one step of the drive for a cylinder, and by two. Two steps are looked at where a
-- track behind cylinder 0 has a number so; one step where one has so, or none has by two.
abbrev pub IsLookedAt : Stepping → (one two : List (List Bool)) → SectorSize → Type 0
IsLookedAt Single one two size = Reaches one size ⊎ (Reaches two size → ⊥)
IsLookedAt Double one two size = Reaches two size

abbrev pub sets_by : Stepping → (one two : List (List Bool)) → List (List Bool)
sets_by Single one two = one
sets_by Double one two = two
