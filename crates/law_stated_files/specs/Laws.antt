-- A file is written of an image exactly where it has these bytes.
use Rattle.std.specs.Prelude.{◌≡◌, ◌↔◌, ℕ, List}
use Rattle.flux_engine.specs.Rings.{IsImage}
use Rattle.g64_image.specs.Layout.{IsCommodore, g64_file}
use Rattle.law_stated_files.specs.Written.{IsDiskFile}
use Rattle.sector_images.specs.declared.format.Format.{Format}

abbrev pub WrittenFilesAreStated : Type 0
WrittenFilesAreStated = (format : Format) (image x : List ℕ) → IsCommodore format
    → IsImage format image → IsDiskFile format image x ↔ (x ≡ g64_file format image)
