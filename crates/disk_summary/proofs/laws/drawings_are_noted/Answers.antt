use Rattle.disk_summary.proofs.Dumps.{noted-drew}
use Rattle.disk_summary.proofs.laws.drawings_are_noted.Goals as goal

pub returns : goal.returns
returns c = noted-drew
