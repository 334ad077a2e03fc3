use Rattle.std.proofs.Common.{refl}
use Rattle.flux_cli.proofs.endings.tell_unmade.Goals as goal

pub returns : goal.returns
returns g c = (refl, (c.write_line.result, c.write_line.ensures))
