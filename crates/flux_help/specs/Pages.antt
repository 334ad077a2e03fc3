-- What the program says of itself, by the texts that the code has.
use Rattle.std.specs.Prelude.{ℕ, List, ◌++◌, codes, decimal, flat_map}
use Rattle.ibm_disks.specs.Disks.{disk_label}
use Rattle.sector_images.specs.Formats.{formats, row}
use Rattle.sector_images.specs.declared.format.Format.{Format}
use Rattle.sector_images.specs.declared.format.Format.TheVariants.{Ibm3740, Ibm360, Ibm720, Ibm1440}
use Rattle.sector_images.specs.declared.format.Format.TheVariants.{Amiga, AmigaHd, C1541}
use Rattle.sector_images.specs.declared.format.Format.TheVariants.{C1541Forty, C1571, C8050, C8250}
use Rattle.sector_images.specs.declared.format.Format.TheVariants.{C1581, AppleDo}
use Rattle.sector_images.specs.declared.format.Format.TheVariants.{ApplePo, AppleDos33, AppleProdos}
use Rattle.sector_images.specs.declared.format.Format.TheVariants.{Mac400, Mac800, Numbered}
use Rattle.flux_help.specs.Verbs.{verb_texts, verbs}
use Rattle.flux_help.specs.declared.page.Page.{Page}
use Rattle.flux_help.specs.declared.page.Page.TheVariants.{Help, Version, About}
use Rattle.flux_help.specs.declared.texts.TheConstants.{NUMBER, VERSION, INTRO, HEADING, CODES}
use Rattle.flux_help.specs.declared.texts.TheConstants.{IBM_3740_DISK, IBM_360_DISK, IBM_720_DISK}
use Rattle.flux_help.specs.declared.texts.TheConstants.{IBM_1440_DISK, AMIGA_DISK, AMIGA_HD_DISK}
use Rattle.flux_help.specs.declared.texts.TheConstants.{C1541_DISK, C1541_FORTY_DISK, C1571_DISK}
use Rattle.flux_help.specs.declared.texts.TheConstants.{C8050_DISK, C8250_DISK, C1581_DISK}
use Rattle.flux_help.specs.declared.texts.TheConstants.{APPLE_DO_DISK, APPLE_PO_DISK}
use Rattle.flux_help.specs.declared.texts.TheConstants.{APPLE_DOS33_DISK, APPLE_PRODOS_DISK}
use Rattle.flux_help.specs.declared.texts.TheConstants.{MAC_400_DISK, MAC_800_DISK}
use Rattle.flux_help.specs.declared.verb.Verb.{Verb}

-- a line for each command
abbrev pub verbs_text : List ℕ
verbs_text = flat_map (λ verb. (verb_texts verb).line.now) verbs

-- what people call a format's disk, its cylinders, its heads where there are
-- two, and the sectors of a track
unfoldable pub disk_name : Format → List ℕ
disk_name Ibm3740 = IBM_3740_DISK.now
disk_name Ibm360 = IBM_360_DISK.now
disk_name Ibm720 = IBM_720_DISK.now
disk_name Ibm1440 = IBM_1440_DISK.now
disk_name Amiga = AMIGA_DISK.now
disk_name AmigaHd = AMIGA_HD_DISK.now
disk_name C1541 = C1541_DISK.now
disk_name C1541Forty = C1541_FORTY_DISK.now
disk_name C1571 = C1571_DISK.now
disk_name C8050 = C8050_DISK.now
disk_name C8250 = C8250_DISK.now
disk_name C1581 = C1581_DISK.now
disk_name AppleDo = APPLE_DO_DISK.now
disk_name ApplePo = APPLE_PO_DISK.now
disk_name AppleDos33 = APPLE_DOS33_DISK.now
disk_name AppleProdos = APPLE_PRODOS_DISK.now
disk_name Mac400 = MAC_400_DISK.now
disk_name Mac800 = MAC_800_DISK.now
disk_name (Numbered disk) = disk_label disk

-- a word, a disk's name and a number of bytes in one line
unfoldable pub disk_text : (word name : List ℕ) → (bytes : ℕ) → List ℕ
disk_text word name bytes =
    codes "   " ++ word ++ codes "\t" ++ name ++ codes ", " ++ decimal bytes ++ codes " bytes\n"

-- the line of a format: its word, its disk, and how many bytes its image has
unfoldable pub format_text : Format → List ℕ
format_text format = disk_text (row format).word (disk_name format) (row format).image_size

-- a line for each format of the table
abbrev pub formats_text : List ℕ
formats_text = flat_map format_text formats

abbrev pub help_text : List ℕ
help_text = INTRO.now ++ (verbs_text ++ (HEADING.now ++ (formats_text ++ CODES.now)))

-- what is said of one command
abbrev pub about_text : Verb → List ℕ
about_text verb = (verb_texts verb).usage.now ++ (verb_texts verb).about.now

-- the number of the version
abbrev pub number_text : List ℕ
number_text = NUMBER.now

abbrev pub page_text : Page → List ℕ
page_text Help = help_text
page_text Version = VERSION.now
page_text (About verb) = about_text verb
