-- The inputs of which decoding a set promises something are the stated
-- ones, and there are no others.
use Rattle.std.specs.Prelude.{◌≡◌, ◌↔◌, ℕ, List}
use Rattle.law_captured_plans.specs.Inputs.{IsCapturedSet, IsErasedSet, IsSteadyErasedSet}
use Rattle.law_captured_plans.specs.Inputs.{IsSteadySet, LiesInACapture}
use Rattle.law_stated_disks.specs.Disks.{StatedDisk, StatedErasedDisk}
use Rattle.law_stated_disks.specs.Disks.{HasWholeSector as HasWholeSectorOnDisk}
use Rattle.law_stated_disks.specs.Disks.{KeptItsSpeed as DiskKeptItsSpeed}
use Rattle.law_stated_disks.specs.Disks.{KeptItsSpeedErased as DiskKeptItsSpeedErased}
use Rattle.law_stated_sets.specs.Sets.{HasWholeSector, KeptItsSpeed, KeptItsSpeedErased}
use Rattle.law_stated_sets.specs.Sets.{StatedErasedSet, StatedSet}
use Rattle.sector_images.specs.declared.format.Format.{Format}

-- the two are one set, of the same streams, and keep their speed alike
pub record IsSameSet (format : Format) (count : ℕ) (image x : List ℕ)
    (stated : StatedSet format count image x)
    (set : IsCapturedSet format count image x) : Type 0 where
  pub streams : set.stream ≡ stated.stream
  pub steady : KeptItsSpeed format count image x stated ↔ IsSteadySet format count image x set

-- the same, and the same sectors lie whole in a capture
pub record IsSameErasedSet (format : Format) (count : ℕ) (image x : List ℕ)
    (stated : StatedErasedSet format count image x)
    (set : IsErasedSet format count image x) : Type 0 where
  pub streams : set.stream ≡ stated.stream
  pub steady : KeptItsSpeedErased format count image x stated
      ↔ IsSteadyErasedSet format count image x set
  pub whole : (n sector : ℕ)
      → HasWholeSector format count image x stated n sector
      ↔ LiesInACapture format count image x set n sector

-- each stated set is a captured one
abbrev pub StatedSetsAreCaptured : Type 0
StatedSetsAreCaptured =
    (format : Format) (count : ℕ) (image x : List ℕ) (stated : StatedSet format count image x)
    → (set : IsCapturedSet format count image x) × IsSameSet format count image x stated set

-- and each captured set is a stated one
abbrev pub CapturedSetsAreStated : Type 0
CapturedSetsAreStated =
    (format : Format) (count : ℕ) (image x : List ℕ) (set : IsCapturedSet format count image x)
    → (stated : StatedSet format count image x) × IsSameSet format count image x stated set

-- so it is with erased sets
abbrev pub StatedErasedSetsAreErased : Type 0
StatedErasedSetsAreErased =
    (format : Format) (count : ℕ) (image x : List ℕ) (stated : StatedErasedSet format count image x)
    → (set : IsErasedSet format count image x) × IsSameErasedSet format count image x stated set

abbrev pub ErasedSetsAreStated : Type 0
ErasedSetsAreStated =
    (format : Format) (count : ℕ) (image x : List ℕ) (set : IsErasedSet format count image x)
    → (stated : StatedErasedSet format count image x)
    × IsSameErasedSet format count image x stated set

-- A set of one capture of each track is a disk of one stream of each, which keeps its speed alike.
abbrev pub StatedDisksAreSets : Type 0
StatedDisksAreSets = (format : Format) (image x : List ℕ) (disk : StatedDisk format image x)
    → (set : StatedSet format 1 image x) × (set.stream ≡ disk.stream)
    × (DiskKeptItsSpeed format image x disk ↔ KeptItsSpeed format 1 image x set)

abbrev pub StatedSetsAreDisks : Type 0
StatedSetsAreDisks = (format : Format) (image x : List ℕ) (set : StatedSet format 1 image x)
    → (disk : StatedDisk format image x) × (set.stream ≡ disk.stream)
    × (DiskKeptItsSpeed format image x disk ↔ KeptItsSpeed format 1 image x set)

-- so it is with erased ones, on which the same sectors lie whole
abbrev pub StatedErasedDisksAreSets : Type 0
StatedErasedDisksAreSets =
    (format : Format) (image x : List ℕ) (disk : StatedErasedDisk format image x)
    → (set : StatedErasedSet format 1 image x) × (set.stream ≡ disk.stream)
    × (DiskKeptItsSpeedErased format image x disk ↔ KeptItsSpeedErased format 1 image x set)
    × ((n sector : ℕ)
    → HasWholeSectorOnDisk format image x disk n sector
    ↔ HasWholeSector format 1 image x set n sector)

abbrev pub StatedErasedSetsAreDisks : Type 0
StatedErasedSetsAreDisks =
    (format : Format) (image x : List ℕ) (set : StatedErasedSet format 1 image x)
    → (disk : StatedErasedDisk format image x) × (set.stream ≡ disk.stream)
    × (DiskKeptItsSpeedErased format image x disk ↔ KeptItsSpeedErased format 1 image x set)
    × ((n sector : ℕ)
    → HasWholeSectorOnDisk format image x disk n sector
    ↔ HasWholeSector format 1 image x set n sector)
