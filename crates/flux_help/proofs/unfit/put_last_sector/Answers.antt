use Rattle.std.proofs.Common.{refl}
use Rattle.flux_help.proofs.unfit.put_last_sector.Goals as goal

pub returns-clause-bytes : goal.returns-clause-bytes
returns-clause-bytes c = rw (c.put_named.ensures.bytes, c.saturating_sub.ensures, c.from.ensures, c.from-2.ensures) refl
