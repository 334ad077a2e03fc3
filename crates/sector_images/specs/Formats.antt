-- The formats of sector images, a row for each.
use Rattle.std.specs.Prelude.{◌≡◌, ◌≤◌, ℕ, ◌-◌, ◌*◌, Bool, true, false, List, [], ◌∷◌, ◌++◌, codes}
use Rattle.std.specs.Prelude.{get_or, map, Option, Some, None}
use Rattle.disk_zones.specs.Units.{fine_units}
use Rattle.disk_zones.specs.Zones.{commodore_8050_inner, commodore_8050_outer, commodore_inner}
use Rattle.disk_zones.specs.Zones.{commodore_outer, macintosh_inner, macintosh_outer, zone_in}
use Rattle.disk_zones.specs.declared.zones.Zone.{Zone}
use Rattle.ibm_disks.specs.Disks.{IsWordOfDisk, cylinders_of, disk_word, heads_of, rate_of}
use Rattle.ibm_disks.specs.Disks.{track_of_disk}
use Rattle.ibm_disks.specs.Named.{named_disks}
use Rattle.ibm_disks.specs.Numbers.{size_of}
use Rattle.ibm_disks.specs.declared.rate.Rate.{Rate}
use Rattle.ibm_disks.specs.declared.rate.Rate.TheVariants.{Double, High, HighAt360, Single}
use Rattle.ibm_disks.specs.declared.rate.Rate.TheVariants.{SingleAt360}
use Rattle.sector_images.specs.declared.format.Format.{Format}
use Rattle.sector_images.specs.declared.format.TrackOrder.{TrackOrder}
use Rattle.sector_images.specs.declared.format.TrackOrder.TheVariants.{ByCylinder, ByHead}
use Rattle.sector_images.specs.declared.format.Format.TheVariants.{Ibm3740, Ibm360, Ibm720, Ibm1440}
use Rattle.sector_images.specs.declared.format.Format.TheVariants.{Amiga, C1541, C1541Forty}
use Rattle.sector_images.specs.declared.format.Format.TheVariants.{AppleDo, ApplePo, AppleDos33}
use Rattle.sector_images.specs.declared.format.Format.TheVariants.{AppleProdos, Mac400, Mac800}
use Rattle.sector_images.specs.declared.format.Format.TheVariants.{C1571, AmigaHd, C8050, C8250}
use Rattle.sector_images.specs.declared.format.Format.TheVariants.{C1581, Numbered}

-- the specified formats, and those of our own that are no disks of one of IBM's two recordings
abbrev pub specified : List Format
specified =
    Ibm3740 ∷ Ibm360 ∷ Ibm720 ∷ Ibm1440 ∷ Amiga ∷ C1541 ∷ C1541Forty ∷ AppleDo ∷ ApplePo ∷ []

abbrev pub further : List Format
further = AppleDos33 ∷ AppleProdos ∷ Mac400 ∷ Mac800 ∷ C1571 ∷ AmigaHd ∷ C8050 ∷ C8250 ∷ C1581 ∷ []

-- all formats that have a name, in the order of their table
abbrev pub formats : List Format
formats = specified ++ (map (λ named. Numbered named.disk) named_disks ++ further)

-- the format is none of IBM's disks by their numbers, so that it has a row of its own
abbrev pub has_row : Format → Bool
has_row (Numbered disk) = false
has_row format = true

-- what each physical sector of an Apple track holds, from sector 0 on: in DOS 3.3 a logical
-- sector, in ProDOS a half block
abbrev pub dos_order : List ℕ
dos_order =
    0x0 ∷ 0x7 ∷ 0xE ∷ 0x6 ∷ 0xD ∷ 0x5 ∷ 0xC ∷ 0x4 ∷ 0xB ∷ 0x3 ∷ 0xA ∷ 0x2 ∷ 0x9 ∷ 0x1 ∷ 0x8 ∷ 0xF
    ∷ []

abbrev pub prodos_order : List ℕ
prodos_order =
    0x0 ∷ 0x8 ∷ 0x1 ∷ 0x9 ∷ 0x2 ∷ 0xA ∷ 0x3 ∷ 0xB ∷ 0x4 ∷ 0xC ∷ 0x5 ∷ 0xD ∷ 0x6 ∷ 0xE ∷ 0x7 ∷ 0xF
    ∷ []

-- the word of the command line, the numbers of cylinders and heads, the number of a track's first
-- sector, the bytes of a sector and those of the image, and where each sector from 0 on stands
-- among those of its track in the image, where that is not the order of their numbers
pub record Row : Type 0 where
  pub word : List ℕ
  pub cylinders : ℕ
  pub heads : ℕ
  pub first_sector : ℕ
  pub sector_size : ℕ
  pub image_size : ℕ
  pub order : Option (List ℕ)

abbrev pub row : Format → Row
row Ibm3740 = record {
  word = codes "ibm-3740";
  cylinders = 77;
  heads = 1;
  first_sector = 1;
  sector_size = 128;
  image_size = 256256;
  order = None;
}
row Ibm360 = record {
  word = codes "ibm-360";
  cylinders = 40;
  heads = 2;
  first_sector = 1;
  sector_size = 512;
  image_size = 368640;
  order = None;
}
row Ibm720 = record {
  word = codes "ibm-720";
  cylinders = 80;
  heads = 2;
  first_sector = 1;
  sector_size = 512;
  image_size = 737280;
  order = None;
}
row Ibm1440 = record {
  word = codes "ibm-1440";
  cylinders = 80;
  heads = 2;
  first_sector = 1;
  sector_size = 512;
  image_size = 1474560;
  order = None;
}
row Amiga = record {
  word = codes "amiga";
  cylinders = 80;
  heads = 2;
  first_sector = 0;
  sector_size = 512;
  image_size = 901120;
  order = None;
}
row C1541 = record {
  word = codes "c1541";
  cylinders = 35;
  heads = 1;
  first_sector = 0;
  sector_size = 256;
  image_size = 174848;
  order = None;
}
row C1541Forty = record {
  word = codes "c1541-40";
  cylinders = 40;
  heads = 1;
  first_sector = 0;
  sector_size = 256;
  image_size = 196608;
  order = None;
}
row AppleDo = record {
  word = codes "apple-do";
  cylinders = 35;
  heads = 1;
  first_sector = 0;
  sector_size = 256;
  image_size = 143360;
  order = Some dos_order;
}
row ApplePo = record {
  word = codes "apple-po";
  cylinders = 35;
  heads = 1;
  first_sector = 0;
  sector_size = 256;
  image_size = 143360;
  order = Some prodos_order;
}
row AppleDos33 = record {
  word = codes "apple-dos33";
  cylinders = 35;
  heads = 1;
  first_sector = 0;
  sector_size = 256;
  image_size = 143360;
  order = Some dos_order;
}
row AppleProdos = record {
  word = codes "apple-prodos";
  cylinders = 35;
  heads = 1;
  first_sector = 0;
  sector_size = 256;
  image_size = 143360;
  order = Some prodos_order;
}
row Mac400 = record {
  word = codes "mac-400";
  cylinders = 80;
  heads = 1;
  first_sector = 0;
  sector_size = 512;
  image_size = 409600;
  order = None;
}
row Mac800 = record {
  word = codes "mac-800";
  cylinders = 80;
  heads = 2;
  first_sector = 0;
  sector_size = 512;
  image_size = 819200;
  order = None;
}
row C1571 = record {
  word = codes "c1571";
  cylinders = 35;
  heads = 2;
  first_sector = 0;
  sector_size = 256;
  image_size = 349696;
  order = None;
}
row AmigaHd = record {
  word = codes "amiga-hd";
  cylinders = 80;
  heads = 2;
  first_sector = 0;
  sector_size = 512;
  image_size = 1802240;
  order = None;
}
row C8050 = record {
  word = codes "c8050";
  cylinders = 77;
  heads = 1;
  first_sector = 0;
  sector_size = 256;
  image_size = 533248;
  order = None;
}
row C8250 = record {
  word = codes "c8250";
  cylinders = 77;
  heads = 2;
  first_sector = 0;
  sector_size = 256;
  image_size = 1066496;
  order = None;
}
row C1581 = record {
  word = codes "c1581";
  cylinders = 80;
  heads = 2;
  first_sector = 1;
  sector_size = 512;
  image_size = 819200;
  order = None;
}
row (Numbered disk) = record {
  word = disk_word disk;
  cylinders = cylinders_of disk;
  heads = heads_of disk;
  first_sector = (track_of_disk disk).first_sector;
  sector_size = size_of (track_of_disk disk).size;
  image_size = cylinders_of disk * (track_of_disk disk).sectors * heads_of disk
      * size_of (track_of_disk disk).size;
  order = None;
}

-- the order of the tracks, in the image and where streams are joined: the Commodore 1571's and
-- 8250's disks have all of a head one after another
abbrev pub track_order : Format → TrackOrder
track_order C1571 = ByHead
track_order C8250 = ByHead
track_order format = ByCylinder

-- The zone of a cylinder: the sectors of a track, its nominal cell in fine units and the cells of
-- its ring. Disks whose outer tracks have more sectors have zones of their own.
abbrev pub commodore_zone : ℕ → Zone
commodore_zone cylinder = zone_in commodore_outer commodore_inner cylinder

abbrev pub commodore_8050_zone : ℕ → Zone
commodore_8050_zone cylinder = zone_in commodore_8050_outer commodore_8050_inner cylinder

abbrev pub macintosh_zone : ℕ → Zone
macintosh_zone cylinder = zone_in macintosh_outer macintosh_inner cylinder

-- a disk by its numbers has the nominal cell of its rate: two microseconds in double density, one
-- in high, four in single, and two in single density at 360 revolutions a minute
abbrev pub cell_of : Rate → ℕ
cell_of Double = fine_units 8
cell_of High = fine_units 4
cell_of HighAt360 = fine_units 4
cell_of Single = fine_units 16
cell_of SingleAt360 = fine_units 8

abbrev pub zone : Format → ℕ → Zone
zone Ibm3740 cylinder = record { sectors = 26; nominal = fine_units 8; ring_cells = 83328 }
zone Ibm360 cylinder = record { sectors = 9; nominal = fine_units 8; ring_cells = 100000 }
zone Ibm720 cylinder = record { sectors = 9; nominal = fine_units 8; ring_cells = 100000 }
zone Ibm1440 cylinder = record { sectors = 18; nominal = fine_units 4; ring_cells = 200000 }
zone Amiga cylinder = record { sectors = 11; nominal = fine_units 8; ring_cells = 100000 }
zone C1541 cylinder = commodore_zone cylinder
zone C1541Forty cylinder = commodore_zone cylinder
zone AppleDo cylinder = record { sectors = 16; nominal = fine_units 16; ring_cells = 49994 }
zone ApplePo cylinder = record { sectors = 16; nominal = fine_units 16; ring_cells = 49994 }
zone AppleDos33 cylinder = record { sectors = 16; nominal = fine_units 16; ring_cells = 49994 }
zone AppleProdos cylinder = record { sectors = 16; nominal = fine_units 16; ring_cells = 49994 }
zone Mac400 cylinder = macintosh_zone cylinder
zone Mac800 cylinder = macintosh_zone cylinder
zone C1571 cylinder = commodore_zone cylinder
zone AmigaHd cylinder = record { sectors = 22; nominal = fine_units 4; ring_cells = 200000 }
zone C8050 cylinder = commodore_8050_zone cylinder
zone C8250 cylinder = commodore_8050_zone cylinder
zone C1581 cylinder = record { sectors = 10; nominal = fine_units 8; ring_cells = 100000 }
zone (Numbered disk) cylinder = record {
  sectors = (track_of_disk disk).sectors;
  nominal = cell_of (rate_of disk);
  ring_cells = 16 * (track_of_disk disk).bytes;
}

-- where a sector stands in an order, or else by its number
abbrev pub slot_by : Option (List ℕ) → (first sector : ℕ) → ℕ
slot_by None first sector = sector - first
slot_by (Some order) first sector = get_or order sector 0

-- where a sector stands among those of its track in the image, counted from 0
abbrev pub slot : Format → ℕ → ℕ
slot format sector = slot_by (row format).order (row format).first_sector sector

-- the word names the format: it is the one that it is printed by, or for a disk by its numbers
-- its name or one that writes them
abbrev pub IsWordOfFormat : List ℕ → Format → Type 0
IsWordOfFormat word (Numbered disk) = IsWordOfDisk word disk
IsWordOfFormat word format = (row format).word ≡ word

-- no word names two
abbrev pub WordsNameFormats : Type 0
WordsNameFormats =
    (word : List ℕ) (f g : Format) → IsWordOfFormat word f → IsWordOfFormat word g → f ≡ g

-- where one names a format, so does the word that is printed of it
abbrev pub PrintedWordsNameFormats : Type 0
PrintedWordsNameFormats =
    (word : List ℕ) (f : Format) → IsWordOfFormat word f → IsWordOfFormat (row f).word f

-- and each begins with a letter
abbrev pub WordsBeginWithLetters : Type 0
WordsBeginWithLetters = (word : List ℕ) (f : Format) → IsWordOfFormat word f → 97 ≤ get_or word 0 0
