-- What is known of a track that was read into a capture.
use Rattle.std.specs.Prelude.{◌≡◌, ◌≤◌, ◌<◌, ◌^◌, ℕ, All, List, length, Option, Some, None}
use Rattle.std.specs.Prelude.{Result, Ok, Err}
use Rattle.file_maker.specs.Made.{Made}
use Rattle.file_maker.specs.Makes.{MakesFile}
use Rattle.flux_base.specs.declared.outside.Failed.{Failed}
use Rattle.scp_unpack.specs.Files.{file_with}
use Rattle.index_turns.specs.Track.{TrackState}
use Rattle.flux_writer.specs.Trailing.{stream_of_capture}
use Rattle.scp_files.specs.Tracks.{MOST_ENTRIES}
use Rattle.scp_unpack.specs.Tracks.{TrackCame, stream_by}
use Rattle.scp_unpack.specs.declared.track.TrackRead.{TrackRead}

-- transitions and index times that can be written
pub record CanBeWritten (flux : TrackState) : Type 0 where
  pub few : length flux.times ≤ MOST_ENTRIES
  pub turns : length flux.indexes ≤ 256
  pub early : All (λ time. time < 2 ^ 32) flux.times
  pub near : All (λ index. index < 2 ^ 32) flux.indexes

-- the file of a track is made, where there is one
abbrev pub MakesTrack : (folder : List ℕ) → (number : ℕ) → Option (List ℕ)
    → (made made' : Option Made) → Result (Unit {0}) Failed → Type 0
MakesTrack folder number (Some bytes) made made' answer =
    MakesFile (file_with folder number bytes) made made' answer
MakesTrack folder number None made made' (Ok _) = made' ≡ made
MakesTrack folder number None made made' (Err _) = ⊥

-- what a track comes to that was read
abbrev pub came_read : (number : ℕ) → TrackState → TrackRead → TrackCame
came_read number flux read = record {
  number = number;
  stream = stream_by read.refusal (stream_of_capture flux.times flux.indexes);
  told = read.told;
}
