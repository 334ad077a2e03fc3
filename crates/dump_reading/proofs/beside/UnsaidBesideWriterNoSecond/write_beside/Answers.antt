use Rattle.std.proofs.Common.{sym, true≢false}
use Rattle.dump_reading.proofs.beside.UnsaidBesideWriterNoSecond.write_beside.Goals as goal

pub returns-clause-second : goal.returns-clause-second
returns-clause-second g c = λ others stand sound. absurd (true≢false (sym sound))
