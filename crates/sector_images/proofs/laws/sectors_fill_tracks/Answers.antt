use Rattle.sector_images.proofs.Slots.{numbers_hold_sectors, sectors_fill_tracks}
use Rattle.sector_images.proofs.laws.sectors_fill_tracks.Goals as goal

pub returns-clause-sectors : goal.returns-clause-sectors
returns-clause-sectors c = sectors_fill_tracks

pub returns-clause-numbers : goal.returns-clause-numbers
returns-clause-numbers c = numbers_hold_sectors
