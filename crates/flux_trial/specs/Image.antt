-- The image of a trial (our own choice).
use Rattle.std.specs.Prelude.{ℕ, ◌+◌, ◌*◌, ◌/◌, ◌%◌, List, map}
use Rattle.std.specs.List.{range_with_len}
use Rattle.sector_images.specs.Formats.{row}
use Rattle.sector_images.specs.declared.format.Format.{Format}

-- byte number i of the image, from 0
abbrev pub image_byte : (seed i : ℕ) → ℕ
image_byte seed i = (seed + 167 * i + 13 * (i / 256)) % 256

unfoldable pub trial_image : Format → (seed : ℕ) → List ℕ
trial_image format seed = map (image_byte seed) (range_with_len 0 (row format).image_size)
