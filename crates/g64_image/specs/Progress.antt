-- How far the reading of a file has come.
use Rattle.std.specs.Prelude.{◌≡◌, ℕ, List, length, Option, Result, Ok, Err}
use Rattle.std.specs.Io.KnownBytes.{Appends}
use Rattle.flux_engine.specs.Disks.{images, lines, totals_over}
use Rattle.flux_engine.specs.Tracks.{TrackPart}
use Rattle.flux_engine.specs.declared.track_part.PartFault.{PartFault}
use Rattle.sector_images.specs.declared.format.Format.{Format}
use Rattle.sector_report.specs.declared.totals.Totals.{Totals}
use Rattle.g64_image.specs.Answers.{CutOfFile}
use Rattle.g64_image.specs.FileDisks.{AreFileParts}

-- The first n tracks of a file are written whole.
pub record HasRead (format : Format) (file : List ℕ) (image image' notes notes' : Option (List ℕ))
    (n : ℕ) (totals : Totals) : Type 0 where
  pub parts : List TrackPart
  pub many : length parts ≡ n
  pub each : AreFileParts format file parts
  pub image_grew : Appends image image' (images parts)
  pub notes_grew : Appends notes notes' (lines parts)
  pub totals_are : totals ≡ totals_over parts

-- a sink failed at a track
abbrev pub WasStopped : Format → (file : List ℕ) → (image image' notes notes' : Option (List ℕ))
    → Result Totals PartFault → Type 0
WasStopped format file image image' notes notes' (Ok totals) = Unit {0}
WasStopped format file image image' notes notes' (Err cause) =
    CutOfFile cause format file image image' notes notes'
