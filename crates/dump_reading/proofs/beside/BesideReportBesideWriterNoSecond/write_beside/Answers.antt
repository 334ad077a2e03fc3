use Rattle.std.proofs.Common.{sym, true≢false}
use Rattle.std.proofs.lemmas.Result.{on_ok_weaker}
use Rattle.flux_base.specs.lemmas.Parts.{Puts-then}
use Rattle.dump_reading.proofs.beside.BesideReportBesideWriterNoSecond.write_beside.Goals as goal

pub returns-in-Ok-clause-wrote : goal.returns-in-Ok-clause-wrote
returns-in-Ok-clause-wrote g c = λ others stand.
    Puts-then c.write_others.result (rw c.deref.ensures.0 at c.in-Ok.ensures) (rw (stand.told, stand.untold) at c.write_others.ensures)

pub returns-in-Ok-clause-second : goal.returns-in-Ok-clause-second
returns-in-Ok-clause-second g c = on_ok_weaker c.write_others.result (λ grew others stand sound. absurd (true≢false (sym sound))) c.write_others.ensures.ok
