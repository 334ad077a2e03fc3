use Rattle.flux_writer.proofs.Gathered.{Gathers-given}
use Rattle.flux_writer.proofs.stream.StreamWriter.finish.Goals as goal

pub returns-in-Ok : goal.returns-in-Ok
returns-in-Ok g c = Gathers-given c.give.result (rw c.end_bytes.ensures at c.in-Ok.ensures.ok) c.in-Ok.ensures.counts c.give.ensures.puts
