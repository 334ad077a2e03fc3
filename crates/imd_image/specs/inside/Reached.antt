-- How far the files of dumps reach that were looked for so far.
use Rattle.std.specs.Prelude.{◌≡◌, ◌<◌, ◌≤◌, ℕ, ◌+◌, List, [], get_or, length, max, Option, Some}
use Rattle.std.specs.Prelude.{None, Result, Ok, Err}
use Rattle.dump_reading.specs.declared.fault.NoFiles.{NoFiles}
use Rattle.dump_turns.specs.declared.reach.Reach.{Reach}
use Rattle.flux_base.specs.declared.track.TrackId.{TrackId}
use Rattle.track_shelf.specs.Files.{File}
use Rattle.track_shelf.specs.declared.stepping.Stepping.{Stepping}
use Rattle.imd_image.specs.Reaches.{HasFile, IsReachIn, IsReachOver, IsWithout}

-- as far as the one of two reaches, or the other
abbrev pub wider : Reach → Reach → Reach
wider a b = record {
  cylinders = max a.cylinders b.cylinders;
  heads = max a.heads b.heads;
}

-- so far reaches a track
abbrev pub reach_to : TrackId → Reach
reach_to track = record { cylinders = track.cylinder + 1; heads = track.head + 1 }

-- how far a dump's files reach, if it has one
abbrev pub IsOwnReach : List File → Stepping → (dump : List ℕ) → Option Reach → Type 0
IsOwnReach files stepping dump None = (track : TrackId) → HasFile files stepping dump track → ⊥
IsOwnReach files stepping dump (Some reach) = IsReachOver (HasFile files stepping dump) reach

-- how far those of the dumps do, or the first dump that has none
abbrev pub IsFoundReach : List File → Stepping → (dumps : List (List ℕ)) → Result Reach NoFiles
    → Type 0
IsFoundReach files stepping dumps (Ok reach) = IsReachIn files stepping dumps reach
IsFoundReach files stepping dumps (Err empty) = IsWithout files stepping dumps empty.dump
