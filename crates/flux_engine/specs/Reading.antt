-- How far the decoding of a track or of a disk has come.
use Rattle.std.specs.Prelude.{◌≤◌, ◌<◌, ◌^◌, All, length}
use Rattle.index_turns.specs.Track.{TrackState}

-- the times of a stream: there are at most as many as it has bytes, and at least two of an index
pub record IsBounded (flux : TrackState) : Type 0 where
  pub turns : 2 ≤ length flux.indexes
  pub few_times : length flux.times ≤ 4194304
  pub few_indexes : length flux.indexes ≤ 262144
  pub times : All (λ time. time ≤ 2 ^ 38) flux.times
  pub indexes : All (λ time. time < 2 ^ 39) flux.indexes
