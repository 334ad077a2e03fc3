-- The second sinks of a track's writer, beside those of its image and its notes.
use Rattle.std.specs.Prelude.{◌≡◌, ℕ, Bool, true, false, List, Option, None, Result, Ok, Err}
use Rattle.sector_images.specs.declared.format.Format.{Format}
use Rattle.sector_report.specs.declared.totals.Totals.{Totals}
use Rattle.flux_engine.specs.LoopProgress.{HasWritten}
use Rattle.flux_engine.specs.Plans.{PartOf, Seen}
use Rattle.flux_engine.specs.Room.{RoomState}
use Rattle.flux_engine.specs.TrackParts.{WritesPart}
use Rattle.flux_engine.specs.Tracks.{TrackPart}
use Rattle.flux_engine.specs.declared.plan.Plan.{Plan}
use Rattle.flux_engine.specs.declared.track_part.PartFault.{PartFault}

-- two sinks at a moment: whether all was taken that they were given, and what they took in the place of
-- an image and of notes
pub record SecondNow : Type 0 where
  pub sound : Bool
  pub image : Option (List ℕ)
  pub notes : Option (List ℕ)

-- where there are none, nothing is told
abbrev pub no_second : SecondNow
no_second = record { sound = false; image = None; notes = None }

-- As long as they take all, they took the track's part wherever the writer's own sinks did.
abbrev pub WritesSecond : TrackPart → (start now : SecondNow) → Result Totals PartFault → Type 0
WritesSecond part start now (Ok totals) =
    now.sound ≡ true
    → (start.sound ≡ true)
    × WritesPart part start.image now.image start.notes now.notes (Ok totals)
WritesSecond part start now (Err fault) = Unit {0}

-- the same of the first n tracks
abbrev pub HasWrittenSecond : Plan → PartOf → Format → (Came : List ℕ → Bool → List Seen → Type 0)
    → (start now : SecondNow) → RoomState → (n : ℕ) → Totals → Type 0
HasWrittenSecond plan of format Came start now room n totals =
    now.sound ≡ true
    → HasWritten plan of format Came start.image now.image start.notes now.notes room n totals
