-- The tracks of a format, their sectors, and their recovered cells by each clock.
pub use Rattle.disk_recordings.specs.TrackSectors.{sectors_of, track_at}
use Rattle.std.specs.Prelude.{ℕ, Bool, List}
use Rattle.flux_base.specs.declared.track.TrackId.{TrackId}
use Rattle.index_turns.specs.Track.{turn_length}
use Rattle.phase_loop.specs.Rows.{recovered}
use Rattle.phase_loop.specs.Start.{held, start_for}
use Rattle.phase_loop.specs.declared.start.LoopStart.{LoopStart}
use Rattle.sector_images.specs.Formats.{zone}
use Rattle.sector_images.specs.declared.format.Format.{Format}
use Rattle.turn_merge.specs.declared.clock.Clock.{Clock}
use Rattle.turn_merge.specs.declared.clock.Clock.TheVariants.{Following, Held}

-- where the clock recovery of a track starts: at the mean cell of its first turn
abbrev pub start_of : Format → TrackId → List ℕ → LoopStart
start_of format track indexes =
    start_for (zone format track.cylinder).nominal (turn_length indexes 1)
    (zone format track.cylinder).ring_cells

-- a start as a clock takes it: the held one keeps its first period
abbrev pub start_by : Clock → LoopStart → LoopStart
start_by Following start = start
start_by Held start = held start

-- the cells that a clock recovers of a track with these transitions and index times
abbrev pub cells_by : Clock → Format → TrackId → List ℕ → List ℕ → List Bool
cells_by clock format track times indexes =
    recovered (start_by clock (start_of format track indexes)) times

-- the recovered cells of a track, where nothing else is said: by the clock
-- that follows the drive's speed
abbrev pub cells_of : Format → TrackId → List ℕ → List ℕ → List Bool
cells_of format track times indexes = cells_by Following format track times indexes
