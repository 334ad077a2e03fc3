use Rattle.library_calls.proofs.DiskSectors.{lines_tell_verdicts, reports_have_no_other_lines}
use Rattle.library_calls.proofs.laws.lines_tell_verdicts.Goals as goal

pub returns-clause-count : goal.returns-clause-count
returns-clause-count c = reports_have_no_other_lines c.planned_lines_tell.ensures.count

pub returns-clause-told : goal.returns-clause-told
returns-clause-told c = lines_tell_verdicts c.planned_lines_tell.ensures.told c.planned_lines_tell.ensures.short
