-- Which tracks a dump has.
use Rattle.std.specs.Prelude.{◌≡◌, ◌<◌, ◌≤◌, ℕ, ◌+◌, ◌*◌, ◌/◌, ◌%◌, true, List, [], ◌∷◌, Option}
use Rattle.std.specs.Prelude.{Some, None}
use Rattle.flux_base.specs.declared.track.TrackId.{TrackId}
use Rattle.track_shelf.specs.Files.{File, has_track}
use Rattle.track_shelf.specs.declared.stepping.Stepping.TheVariants.{Single}
use Rattle.dump_reading.specs.DumpStreams.{DumpTracks}
use Rattle.dump_turns.specs.declared.reach.Reach.{Reach}

-- the cylinders of which files are looked for
abbrev pub MOST_CYLINDERS : ℕ
MOST_CYLINDERS = 99

-- a track of these cylinders, on one of two heads
pub record IsLookedFor (track : TrackId) : Type 0 where
  pub cylinder : track.cylinder < MOST_CYLINDERS
  pub head : track.head < 2

-- a dump has such a track
pub record HasFile (files : List File) (dump : List ℕ) (track : TrackId) : Type 0 where
  pub looked_for : IsLookedFor track
  pub there : has_track files dump track ≡ true

-- One more than the greatest cylinder and the greatest head of which a dump has a file: no file
-- is beyond them, and some file has the one, and some the other.
pub record IsReach (files : List File) (dump : List ℕ) (reach : Reach) : Type 0 where
  pub within : (track : TrackId) → HasFile files dump track
      → (track.cylinder < reach.cylinders) × (track.head < reach.heads)
  pub cylinder : (track : TrackId) × HasFile files dump track
      × (track.cylinder + 1 ≡ reach.cylinders)
  pub head : (track : TrackId) × HasFile files dump track × (track.head + 1 ≡ reach.heads)

-- there is none where the dump has no such file
abbrev pub IsReachOf : List File → (dump : List ℕ) → Option Reach → Type 0
IsReachOf files dump None = (track : TrackId) → HasFile files dump track → ⊥
IsReachOf files dump (Some reach) = IsReach files dump reach

pub record IsBoundedReach (reach : Reach) : Type 0 where
  pub some_cylinder : 0 < reach.cylinders
  pub some_head : 0 < reach.heads
  pub cylinders : reach.cylinders ≤ MOST_CYLINDERS
  pub heads : reach.heads ≤ 2

-- how many tracks there are
abbrev pub count_in : Reach → ℕ
count_in reach = reach.cylinders * reach.heads

-- the track of a number: cylinder by cylinder, head by head
abbrev pub track_number : Reach → (number : ℕ) → TrackId
track_number reach number =
    record { cylinder = number / reach.heads; head = number % reach.heads }

-- the files of these tracks of a dump
abbrev pub of_dump : (dump : List ℕ) → Reach → DumpTracks
of_dump dump reach =
    record {
      stepping = Single;
      dumps = dump ∷ [];
      count = 1;
      track_of = track_number reach;
    }
