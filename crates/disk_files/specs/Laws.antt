-- What the files that are written of an image are to a reader of streams.
use Rattle.std.specs.Prelude.{◌≤◌, ◌<◌, ℕ, List, length}
use Rattle.sector_images.specs.Places.{tracks}
use Rattle.flux_engine.specs.Captures.{Capture, IsSteady}
use Rattle.flux_engine.specs.Rings.{IsImage, nominal_of, ring_of}
use Rattle.disk_files.specs.Files.{DiskFolder, MOST_VERSION, disk_file}

-- the file of each track of an image is a capture of the track's ring,
-- of a drive that keeps its speed
abbrev pub FilesAreCaptures : Type 0
FilesAreCaptures = (disk : DiskFolder) (image : List ℕ) (k : ℕ) → IsImage disk.format image
    → length disk.version ≤ MOST_VERSION → k < length (tracks disk.format)
    → (capture : Capture (disk_file disk image k).bytes (ring_of disk.format image k)
    (nominal_of disk.format k))
    × IsSteady (disk_file disk image k).bytes (ring_of disk.format image k)
    (nominal_of disk.format k) capture
