-- A file is written of an image exactly where it has the stated bytes.
use Rattle.std.specs.Prelude.{◌<◌, ◌≤◌, ◌/◌, ℕ, List, length}
use Rattle.std.proofs.Common.{sym, subst}
use Rattle.flux_engine.specs.Rings.{IsImage, ring_of}
use Rattle.g64_image.specs.Layout.{IsCommodore, g64_file}
use Rattle.law_stated_files.specs.Laws.{WrittenFilesAreStated}
use Rattle.law_stated_files.specs.Written.{IsDiskFile}
use Rattle.law_stated_files.proofs.Places.{same}
use Rattle.law_stated_files.proofs.Reading.{written}
use Rattle.sector_images.specs.Places.{tracks}
use Rattle.sector_images.specs.declared.format.Format.{Format}

-- the rings fit into the room of a track, and the tracks are few
pub record RingsFit : Type 0 where
  pub short : (format : Format) (image : List ℕ) (k : ℕ) → IsCommodore format → IsImage format image → k < length (tracks format) → length (ring_of format image k) / 8 ≤ 7928
  pub few : (format : Format) → IsCommodore format → length (tracks format) ≤ 42

pub files : RingsFit → WrittenFilesAreStated
files fit format image x commodore is =
    let own : IsDiskFile format image (g64_file format image) = written format image (λ k low. fit.short format image k commodore is low) (fit.few format commodore) in (
      λ stated. same format image x (g64_file format image) stated own,
      λ equal. subst (IsDiskFile format image) (sym equal) own,
    )
