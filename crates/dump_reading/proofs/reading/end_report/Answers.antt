use Rattle.std.proofs.lemmas.Result.{on_ok_weaker}
use Rattle.flux_base.specs.lemmas.Parts.{Puts-then}
use Rattle.dump_reading.proofs.Ends.{all-wrote}
use Rattle.dump_reading.proofs.reading.end_report.Goals as goal

pub returns-in-Ok-clause-puts : goal.returns-in-Ok-clause-puts
returns-in-Ok-clause-puts g c = Puts-then c.write_line-in-Ok.result (rw c.unread_line.ensures at c.in-Ok.ensures) (rw c.total_line.ensures at c.write_line-in-Ok.ensures)

pub returns-in-Ok-clause-whole : goal.returns-in-Ok-clause-whole
returns-in-Ok-clause-whole g c =
    let both = Puts-then c.write_line-in-Ok.result (rw c.unread_line.ensures at c.in-Ok.ensures) (rw c.total_line.ensures at c.write_line-in-Ok.ensures) in
    on_ok_weaker c.write_line-in-Ok.result
    (λ grew disk start now image image' before h.
    all-wrote disk start now image image' before (g.N.Sink.written c.args.notes.now) (g.N.Sink.written c.write_line-in-Ok.new.sink) c.args.totals.now h grew) both.ok
