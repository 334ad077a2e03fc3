-- What a trial comes to: its drive's stream of each track, the input of all of them, and the line.
use Rattle.std.specs.Prelude.{◌≡◌, ℕ, List, Bool, flat_map, length, sum}
use Rattle.std.specs.List.{range_with_len}
use Rattle.flux_engine.specs.Plans.{IsPlanned, Planned, decoding, streams_in}
use Rattle.flux_engine.specs.Rings.{nominal_of, ring_of}
use Rattle.flux_engine.specs.Tracks.{part_by}
use Rattle.flux_writer.specs.Written.{stream_of_times}
use Rattle.sector_images.specs.Places.{tracks}
use Rattle.sector_images.specs.declared.format.Format.{Format}
use Rattle.sector_report.specs.Lines.{trial_text}
use Rattle.sector_report.specs.declared.naming.Naming.TheVariants.{Unnamed}
use Rattle.flux_trial.specs.Drive.{Drive}
use Rattle.flux_trial.specs.Image.{trial_image}
use Rattle.flux_trial.specs.Times.{trial_indexes, trial_times}

-- the drive that turns over track number k
abbrev pub drive_at : Format → (seed k : ℕ) → Drive
drive_at format seed k = record { seed = seed; track = k; nominal = nominal_of format k }

-- the ring of track number k, with the trial's image in its sectors
abbrev pub trial_ring : Format → (seed k : ℕ) → List Bool
trial_ring format seed k = ring_of format (trial_image format seed) k

-- the stream that the drive gives of track number k
unfoldable pub trial_stream : Format → (seed k : ℕ) → List ℕ
trial_stream format seed k =
    stream_of_times (trial_times (drive_at format seed k) (trial_ring format seed k))
    (trial_indexes (drive_at format seed k) (trial_ring format seed k))

-- the streams of all tracks in order, one after another
unfoldable pub trial_input : Format → (seed : ℕ) → List ℕ
trial_input format seed =
    flat_map (trial_stream format seed) (range_with_len 0 (length (tracks format)))

-- The line that a trial writes: the totals of what its streams decode to, and the sum of
-- the bytes of the decoded image.
pub record IsTrialLine (format : Format) (seed : ℕ) (line : List ℕ) : Type 0 where
  pub decoded : Planned
  pub is : IsPlanned decoding (part_by Unnamed) format
      (streams_in decoding (trial_input format seed)) decoded
  pub line_is : line
      ≡ trial_text format seed (length (tracks format)) decoded.totals (sum decoded.image)
