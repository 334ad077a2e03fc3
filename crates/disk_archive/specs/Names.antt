-- The names of the files.
use Rattle.std.specs.Prelude.{◌||◌, if◌then◌else◌, ℕ, Bool, List, [], ◌∷◌, codes}
use Rattle.std.specs.Str.{bytes_eq}
use Rattle.sector_images.specs.Formats.{row}
use Rattle.sector_images.specs.declared.format.Format.{Format}
use Rattle.sector_images.specs.declared.format.Format.TheVariants.{Amiga, AmigaHd, C1541, C1541Forty}
use Rattle.sector_images.specs.declared.format.Format.TheVariants.{C1571, C1581, C8050, C8250}
use Rattle.sector_images.specs.declared.format.Format.TheVariants.{AppleDo, AppleDos33, ApplePo}
use Rattle.sector_images.specs.declared.format.Format.TheVariants.{AppleProdos, Mac400, Mac800}
use Rattle.sector_images.specs.declared.format.Format.TheVariants.{Numbered}
use Rattle.disk_archive.specs.declared.names.KeptFile.{KeptFile}
use Rattle.disk_archive.specs.declared.names.KeptFile.TheVariants.{Report, Image, Picture, Summary}

-- the word is one of Acorn's DFS disks
abbrev pub is_dfs : (word : List ℕ) → Bool
is_dfs word = bytes_eq word (codes "acorn-dfs-40") || bytes_eq word (codes "acorn-dfs-80")

-- an image of a disk of one of IBM's recordings, by its word
abbrev pub numbered_name : (word : List ℕ) → List ℕ
numbered_name word =
    if bytes_eq word (codes "atari-st-800") then codes "disk.st"
    else (if is_dfs word then codes "disk.ssd" else codes "disk.img")

-- the image's (own): by what emulators and other programs call such images
abbrev pub image_name : Format → List ℕ
image_name Amiga = codes "disk.adf"
image_name AmigaHd = codes "disk.adf"
image_name C1541 = codes "disk.d64"
image_name C1541Forty = codes "disk.d64"
image_name C1571 = codes "disk.d71"
image_name C1581 = codes "disk.d81"
image_name C8050 = codes "disk.d80"
image_name C8250 = codes "disk.d82"
image_name AppleDo = codes "disk.do"
image_name AppleDos33 = codes "disk.do"
image_name ApplePo = codes "disk.po"
image_name AppleProdos = codes "disk.po"
image_name Mac400 = codes "disk.dsk"
image_name Mac800 = codes "disk.dsk"
image_name (Numbered disk) = numbered_name (row (Numbered disk)).word
image_name _ = codes "disk.img"

abbrev pub name_of : Format → KeptFile → List ℕ
name_of format Report = codes "report.txt"
name_of format Image = image_name format
name_of format Picture = codes "disk.svg"
name_of format Summary = codes "summary.json"

-- in the order in which they are made: those before each, and all
abbrev pub before_of : KeptFile → List KeptFile
before_of Report = []
before_of Image = Report ∷ []
before_of Picture = Report ∷ Image ∷ []
before_of Summary = Report ∷ Image ∷ Picture ∷ []

abbrev pub all_files : List KeptFile
all_files = Report ∷ Image ∷ Picture ∷ Summary ∷ []
