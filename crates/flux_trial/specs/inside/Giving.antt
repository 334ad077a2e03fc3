-- A source that gives the streams of a trial's tracks, one after another.
use Rattle.std.specs.Prelude.{◌≡◌, ◌≤◌, ℕ, ◌-◌, ◌++◌, List, flat_map, length}
use Rattle.std.specs.List.{range_with_len}
use Rattle.cell_bits.specs.State.{CellsState}
use Rattle.index_turns.specs.Track.{TrackState, room_of_indexes, room_of_times}
use Rattle.flux_engine.specs.Rings.{HasRoomForRings}
use Rattle.sector_images.specs.Places.{tracks}
use Rattle.sector_images.specs.declared.format.Format.{Format}
use Rattle.flux_trial.specs.Image.{trial_image}
use Rattle.flux_trial.specs.Tracks.{trial_stream}

-- the bytes of the stream that is given now, and those of the later ones
pub record SourceState : Type 0 where
  pub format : Format
  pub at_hand : List ℕ
  pub later : List ℕ

abbrev pub left_of : SourceState → List ℕ
left_of s = s.at_hand ++ s.later

-- the streams of the tracks from number k on
abbrev pub streams_from : Format → (seed k : ℕ) → List ℕ
streams_from format seed k =
    flat_map (trial_stream format seed) (range_with_len k (length (tracks format) - k))

-- how many times a track has at most
abbrev pub MOST_TIMES : ℕ
MOST_TIMES = 1048576

-- there is room for each track's ring, its times and its index times
pub record HasTrialRoom (format : Format) (cells : CellsState) (flux : TrackState) : Type 0 where
  pub ring : HasRoomForRings format cells
  pub times : MOST_TIMES ≤ room_of_times flux
  pub indexes : 4 ≤ room_of_indexes flux

-- the image is the trial's; so many tracks were made, and so many bytes
-- of the last one's stream given
pub record IsGiving (format : Format) (seed : ℕ) (image : List ℕ) (made given : ℕ)
    (stream : List ℕ) : Type 0 where
  pub image_is : image ≡ trial_image format seed
  pub few : made ≤ length (tracks format)
  pub bytes : given ≤ length stream
