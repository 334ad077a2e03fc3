use Rattle.std.proofs.Common.{Err}
use Rattle.flux_base.specs.lemmas.Parts.{Puts-cut, Puts-then}
use Rattle.dump_reading.specs.Reports.{traces_lines}
use Rattle.dump_reading.proofs.report.write_others.Goals as goal

pub returns-in-Err-write_if : goal.returns-in-Err-write_if
returns-in-Err-write_if g c =
    Puts-then (Err c.in-Err-write_if.failed) (rw c.told.ensures at c.in-Ok.ensures)
    (Puts-cut (traces_lines c.args.track c.args.others.now.told) (rw (c.untold_line.ensures, c.has_untold.ensures) at c.in-Err-write_if.ensures))

pub returns : goal.returns
returns g c =
    Puts-then c.write_if-2.result (rw c.told.ensures at c.in-Ok.ensures)
    (Puts-then c.write_if-2.result (rw (c.untold_line.ensures, c.has_untold.ensures) at c.in-Ok-write_if.ensures)
    (rw (c.traces_line.ensures, c.trace_count-traces.ensures, c.told-2.ensures) at c.write_if-2.ensures))
