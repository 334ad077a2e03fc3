-- A drive that turns over a ring.
use Rattle.std.specs.Prelude.{◌≡◌, ◌≤◌, ◌<◌, ℕ, ◌+◌, ◌*◌, All, Bool, List, length, map, take}
use Rattle.flux_writer.specs.Written.{ones_of, track_cells, track_turns}
use Rattle.flux_trial.specs.Drive.{Drive, index_time}
use Rattle.flux_trial.specs.Times.{times_seen}
use Rattle.flux_trial.specs.declared.head.Head.{Head}
use Rattle.flux_trial.specs.inside.Heads.{AreBefore, IsAt, IsSound, reach}
use Rattle.flux_writer.specs.lemmas.FoundOnes.{ones_from}
use Rattle.flux_writer.specs.lemmas.TrackParts.{cells_after, turn_cell}

-- the numbers of the ones of these
abbrev pub ones_after : List Bool → ℕ → List ℕ
ones_after ring turns = ones_from 0 (cells_after ring turns)

-- The drive has turned over a ring's last quarter and so many turns, up to an index cell: the head
-- is there, and these are the times and index times so far, that of this cell with them.
pub record HasTurned (d : Drive) (ring : List Bool) (turns : ℕ) (head : Head)
    (times indexes : List ℕ) : Type 0 where
  pub at : IsAt d (ones_after ring turns) head
  pub sound : IsSound head
  pub later : head.cell < turn_cell ring turns
  pub before : AreBefore head times
  pub times_are : times ≡ times_seen d (length ring) (ones_after ring turns)
  pub indexes_are : indexes
      ≡ map (index_time d (ones_of (track_cells ring))) (take (turns + 1) (track_turns ring))
  pub early : All (λ time. 1024 * time ≤ reach head (turn_cell ring turns)) indexes
