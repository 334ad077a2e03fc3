use Rattle.sector_images.proofs.Inside.{numbers_name_tracks, sectors_lie_in_images}
use Rattle.sector_images.proofs.laws.sectors_lie_in_images.Goals as goal

pub returns-clause-numbers : goal.returns-clause-numbers
returns-clause-numbers c = numbers_name_tracks

pub returns-clause-sectors : goal.returns-clause-sectors
returns-clause-sectors c = sectors_lie_in_images
