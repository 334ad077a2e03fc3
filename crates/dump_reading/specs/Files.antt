-- What the files of dumps do to their shelf: what an open one has
-- counted, and how many of them failed.
use Rattle.std.specs.Prelude.{◌≡◌, ◌≤◌, ◌<◌, ℕ, Option, Some, None}
use Rattle.flux_base.specs.Counts.{FaultCounts}
use Rattle.flux_base.specs.Outside.{Rose}
use Rattle.track_shelf.specs.Files.{risen_by}
use Rattle.flux_base.specs.World.{source_counts}
use Rattle.flux_base.specs.declared.outside.Source.{Ghosts as SourceGhosts}
use Rattle.track_shelf.specs.Told.{ShelfTold}
use Rattle.track_shelf.specs.World.{told_at}
use Rattle.track_shelf.specs.declared.shelf.Shelf.{Ghosts}

-- a shelf at a moment: what it tells of itself, and what it has counted
pub record ShelfNow : Type 0 where
  pub told : ShelfTold
  pub counts : FaultCounts

abbrev pub shelf_now : ShelfTold → FaultCounts → ShelfNow
shelf_now told counts = record { told = told; counts = counts }

abbrev pub shelf_at : {H F : Type 0} → SourceGhosts H → Ghosts H F → H → ShelfNow
shelf_at source own shelf = shelf_now (told_at source own shelf) (source_counts source shelf)

-- where it is told how many calls failed, so many more did
abbrev pub failed_more : (often : ℕ) → Option ℕ → Option ℕ
failed_more often None = None
failed_more often (Some count) = Some (risen_by often count)

-- in between so many calls failed, and no other
pub record CountsMany (often : ℕ) (old new : FaultCounts) : Type 0 where
  pub later : old.faults ≤ new.faults
  pub cause : 0 < often → Rose old.faults new.faults
  pub counted : new.failed ≡ failed_more often old.failed
