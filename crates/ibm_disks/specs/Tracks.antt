-- The numbers of the tracks that have names. Gaps are in bytes. A track has 6250 bytes in double
-- density, and the high density ones 10416 at 360 revolutions a minute (15 sectors) and 12500 (18
-- sectors); in single density the 3740's has 5208, and Acorn's 3125.
use Rattle.ibm_disks.specs.declared.sector_size.SectorSize.TheVariants.{Bytes128, Bytes256}
use Rattle.ibm_disks.specs.declared.sector_size.SectorSize.TheVariants.{Bytes512}
use Rattle.ibm_disks.specs.declared.track_numbers.LeadIn.TheVariants.{Indexed, Bare}
use Rattle.ibm_disks.specs.declared.track_numbers.TrackNumbers.{TrackNumbers}

abbrev pub pc_8 : TrackNumbers
pc_8 = record { sectors = 8; first_sector = 1; size = Bytes512; lead_in = Indexed; sector_gap = 80; bytes = 6250 }

abbrev pub pc_9 : TrackNumbers
pc_9 = record { sectors = 9; first_sector = 1; size = Bytes512; lead_in = Indexed; sector_gap = 80; bytes = 6250 }

abbrev pub pc_15 : TrackNumbers
pc_15 = record { sectors = 15; first_sector = 1; size = Bytes512; lead_in = Indexed; sector_gap = 84; bytes = 10416 }

abbrev pub pc_18 : TrackNumbers
pc_18 = record { sectors = 18; first_sector = 1; size = Bytes512; lead_in = Indexed; sector_gap = 108; bytes = 12500 }

abbrev pub atari_10 : TrackNumbers
atari_10 = record { sectors = 10; first_sector = 1; size = Bytes512; lead_in = Indexed; sector_gap = 30; bytes = 6250 }

abbrev pub cpc_data : TrackNumbers
cpc_data = record { sectors = 9; first_sector = 0xC1; size = Bytes512; lead_in = Indexed; sector_gap = 82; bytes = 6250 }

abbrev pub cpc_system : TrackNumbers
cpc_system = record { sectors = 9; first_sector = 0x41; size = Bytes512; lead_in = Indexed; sector_gap = 82; bytes = 6250 }

abbrev pub ibm_3740 : TrackNumbers
ibm_3740 = record { sectors = 26; first_sector = 1; size = Bytes128; lead_in = Indexed; sector_gap = 27; bytes = 5208 }

abbrev pub acorn : TrackNumbers
acorn = record { sectors = 10; first_sector = 0; size = Bytes256; lead_in = Bare; sector_gap = 21; bytes = 3125 }
