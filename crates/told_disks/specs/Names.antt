-- The sector numbers of tracks, and which of them count.
use Rattle.std.specs.Prelude.{◌≡◌, ◌<◌, ◌≤◌, ◌&&◌, ◌+◌, ◌*◌, ℕ, Bool, true, false, List, [], count_by}
use Rattle.std.specs.Prelude.{get_or, nat_lt}
use Rattle.ibm_disks.specs.Numbers.{code_of}
use Rattle.ibm_disks.specs.declared.sector_size.SectorSize.{SectorSize}

-- a set has a number of a size
unfoldable pub has : (set : List Bool) → SectorSize → (number : ℕ) → Bool
has set size number = nat_lt number 256 && get_or set (256 * code_of size + number) false

-- it has one
abbrev pub HasAny : (set : List Bool) → SectorSize → Type 0
HasAny set size = (number : ℕ) × (has set size number ≡ true)

-- the set of a track among those of all tracks
abbrev pub set_at : (sets : List (List Bool)) → (track : ℕ) → List Bool
set_at sets track = get_or sets track []

-- on how many tracks a number of a size stands
abbrev pub count_of : (sets : List (List Bool)) → SectorSize → (number : ℕ) → ℕ
count_of sets size number = count_by (λ set. has set size number) sets

-- A number counts that stands on a track, and on a quarter at least of the tracks on which the
-- commonest number stands.
pub record Counts (sets : List (List Bool)) (size : SectorSize) (number : ℕ) : Type 0 where
  pub some : 0 < count_of sets size number
  pub often : (other : ℕ) → count_of sets size other ≤ 4 * count_of sets size number

-- a number that counts stands on a track
abbrev pub HasCounted : (sets : List (List Bool)) → SectorSize → (track : ℕ) → Type 0
HasCounted sets size track =
    (number : ℕ) × Counts sets size number × (has (set_at sets track) size number ≡ true)
