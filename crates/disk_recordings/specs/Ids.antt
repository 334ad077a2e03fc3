-- Where an image has the two bytes of its disk's id.
use Rattle.std.specs.Prelude.{Option, Some, None}
use Rattle.disk_recordings.specs.declared.disk_id.IdPlace.{IdPlace}
use Rattle.sector_images.specs.declared.format.Format.{Format}
use Rattle.sector_images.specs.declared.format.Format.TheVariants.{C1541, C1541Forty, C1571, C8050}
use Rattle.sector_images.specs.declared.format.Format.TheVariants.{C8250}

-- of a Commodore 1541's or 1571's disk: in track 18, counted from 1
abbrev pub id_of_1541 : IdPlace
id_of_1541 = record { track = record { cylinder = 17; head = 0 }; byte = 0xA2 }

-- of an 8050's or 8250's: in track 39
abbrev pub id_of_8050 : IdPlace
id_of_8050 = record { track = record { cylinder = 38; head = 0 }; byte = 0x18 }

-- of a format's disk, if it has one
abbrev pub id_place : Format → Option IdPlace
id_place C1541 = Some id_of_1541
id_place C1541Forty = Some id_of_1541
id_place C1571 = Some id_of_1541
id_place C8050 = Some id_of_8050
id_place C8250 = Some id_of_8050
id_place format = None
