-- What is known of the files that `write --folder` makes, where the source tells an image and what
-- makes files tells what lies there.
use Rattle.std.specs.Prelude.{◌≡◌, ℕ, List, Option, Some}
use Rattle.disk_files.specs.Files.{DiskFolder}
use Rattle.file_maker.specs.Made.{Made}
use Rattle.flux_engine.specs.Rings.{IsImage}
use Rattle.law_written_dumps.specs.Headline.{AreCaptured, AreReadWell, files_with}

-- They lie behind those that were there. The folder is a dump that captures the image, so each
-- sector of what is read of it is good, with its own bytes, whatever else lies there.
pub record AreWritten (target : DiskFolder) (image : List ℕ) (before after : Made) : Type 0 where
  pub files : after.files ≡ files_with target before.files image
  pub captured : AreCaptured target after.files image
  pub read : AreReadWell target after.files image

-- by what the source had to give, and what is made
abbrev pub OfWritten : DiskFolder → (left : Option (List ℕ)) → (made made' : Option Made) → Type 0
OfWritten target left made made' =
    (image : List ℕ) (before : Made) → left ≡ Some image → made ≡ Some before
    → IsImage target.format image
    → (after : Made) × (made' ≡ Some after) × AreWritten target image before after
