use Rattle.sector_report.proofs.DumpWords.{passed_lines_tell}
use Rattle.sector_report.proofs.LineEnds.{dumps_have_lines}
use Rattle.sector_report.proofs.laws.dumps_have_lines.Goals as goal

pub returns-clause-lines : goal.returns-clause-lines
returns-clause-lines c = dumps_have_lines

pub returns-clause-tell : goal.returns-clause-tell
returns-clause-tell c = passed_lines_tell
