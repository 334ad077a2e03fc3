use Rattle.flux_help.proofs.NoDisk.{unfit_no_disk}
use Rattle.flux_help.proofs.unfit.unfit_is_no_disk.Goals as goal

pub returns : goal.returns
returns c = unfit_no_disk
