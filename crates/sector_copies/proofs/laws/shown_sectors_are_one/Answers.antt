use Rattle.sector_copies.proofs.OneShown.{shown_is_one}
use Rattle.sector_copies.proofs.laws.shown_sectors_are_one.Goals as goal

pub returns : goal.returns
returns c = shown_is_one
