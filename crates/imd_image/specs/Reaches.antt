-- Which tracks some dumps have.
use Rattle.std.specs.Prelude.{◌≡◌, ◌<◌, ℕ, ◌+◌, true, List, [], get_or, length}
use Rattle.dump_reading.specs.DumpStreams.{DumpTracks}
use Rattle.dump_turns.specs.Reaches.{track_number}
use Rattle.dump_turns.specs.declared.reach.Reach.{Reach}
use Rattle.flux_base.specs.declared.track.TrackId.{TrackId}
use Rattle.track_shelf.specs.Files.{File, has_track}
use Rattle.track_shelf.specs.Stepping.{file_track}
use Rattle.track_shelf.specs.declared.stepping.Stepping.{Stepping}
use Rattle.track_shelf.specs.declared.stepping.Stepping.TheVariants.{Single, Double}

-- the cylinders of a disk of which files are looked for: by one step of the drive for each, and by
-- two
abbrev pub cylinders_by : Stepping → ℕ
cylinders_by Single = 99
cylinders_by Double = 42

-- a dump has such a track, on one of two heads
pub record HasFile (files : List File) (stepping : Stepping) (dump : List ℕ)
    (track : TrackId) : Type 0 where
  pub cylinder : track.cylinder < cylinders_by stepping
  pub head : track.head < 2
  pub there : has_track files dump (file_track stepping track) ≡ true

-- one of the first dumps has
abbrev pub HasAFile : List File → Stepping → (dumps : List (List ℕ)) → (count : ℕ) → TrackId
    → Type 0
HasAFile files stepping dumps count track =
    (dump : ℕ) × (dump < count) × HasFile files stepping (get_or dumps dump []) track

-- One more than the greatest cylinder and the greatest head of which there is one: none is beyond
-- them, and some has the one, and some the other.
pub record IsReachOver (Has : TrackId → Type 0) (reach : Reach) : Type 0 where
  pub within : (track : TrackId) → Has track
      → (track.cylinder < reach.cylinders) × (track.head < reach.heads)
  pub cylinder : (track : TrackId) × Has track × (track.cylinder + 1 ≡ reach.cylinders)
  pub head : (track : TrackId) × Has track × (track.head + 1 ≡ reach.heads)

-- Each of the dumps has such a file, and so far they reach.
pub record IsReachIn (files : List File) (stepping : Stepping) (dumps : List (List ℕ))
    (reach : Reach) : Type 0 where
  pub each : (dump : ℕ) → dump < length dumps
      → (track : TrackId) × HasFile files stepping (get_or dumps dump []) track
  pub is : IsReachOver (HasAFile files stepping dumps (length dumps)) reach

-- the number of the first dump that has none
pub record IsWithout (files : List File) (stepping : Stepping) (dumps : List (List ℕ))
    (number : ℕ) : Type 0 where
  pub known : number < length dumps
  pub none : (track : TrackId) → HasFile files stepping (get_or dumps number []) track → ⊥
  pub first : (other : ℕ) → other < number
      → (track : TrackId) × HasFile files stepping (get_or dumps other []) track

-- the files of these tracks of the dumps
abbrev pub of_reach : Stepping → (dumps : List (List ℕ)) → Reach → DumpTracks
of_reach stepping dumps reach = record {
  stepping = stepping;
  dumps = dumps;
  count = length dumps;
  track_of = track_number reach;
}
