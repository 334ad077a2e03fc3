-- The formats of the disks that there are G64 files of.
use Rattle.sector_images.specs.declared.format.Format.{Format}
use Rattle.sector_images.specs.declared.format.Format.TheVariants.{C1541, C1541Forty}
use Rattle.flux_words.specs.declared.g64_disk.G64Disk.{G64Disk}
use Rattle.flux_words.specs.declared.g64_disk.G64Disk.TheVariants.{Tracks35, Tracks40}

abbrev pub format_of : G64Disk → Format
format_of Tracks35 = C1541
format_of Tracks40 = C1541Forty
