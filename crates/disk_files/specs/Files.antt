-- The files that are written of an image: for each track its stream, behind an Info block
-- (KryoFlux stream protocol, "Out of Band Block Format"; what KryoFlux's own files tell there;
-- which of it we tell is our own choice).
use Rattle.std.specs.Prelude.{ℕ, List, [], ◌∷◌, ◌++◌, codes, length, map}
use Rattle.std.specs.List.{range_with_len}
use Rattle.stream_texts.specs.Texts.{text_block}
use Rattle.sector_images.specs.Places.{tracks}
use Rattle.sector_images.specs.declared.format.Format.{Format}
use Rattle.track_shelf.specs.Files.{File}
use Rattle.track_shelf.specs.Names.{folder_path}
use Rattle.flux_engine.specs.Recordings.{track_at}
use Rattle.flux_engine.specs.Rings.{track_stream}

-- the most bytes of a version
abbrev pub MOST_VERSION : ℕ
MOST_VERSION = 64

-- who wrote the stream, and in hertz the clocks of its transitions and of its index counter
unfoldable pub info_text : (version : List ℕ) → List ℕ
info_text version = codes "name=flux, version=" ++ version
    ++ codes ", sck=24027428.5714285, ick=3003428.5714285" ++ 0 ∷ []

abbrev pub info_block : (version : List ℕ) → List ℕ
info_block version = text_block (info_text version)

-- where the files of a disk are written, the disk's format, and the version
-- of the program that writes them
pub record DiskFolder : Type 0 where
  pub folder : List ℕ
  pub format : Format
  pub version : List ℕ

-- the file of track number k of an image
abbrev pub disk_file : DiskFolder → (image : List ℕ) → (k : ℕ) → File
disk_file disk image k = record {
  path = folder_path disk.folder (track_at disk.format k);
  bytes = info_block disk.version ++ track_stream disk.format image k;
}

-- the files of the first tracks, in order, so many; and of all
abbrev pub first_files : DiskFolder → (image : List ℕ) → (count : ℕ) → List File
first_files disk image count = map (disk_file disk image) (range_with_len 0 count)

unfoldable pub disk_files : DiskFolder → (image : List ℕ) → List File
disk_files disk image = first_files disk image (length (tracks disk.format))
