use Rattle.sector_report.proofs.LineEnds.{totals_have_one_line}
use Rattle.sector_report.proofs.laws.totals_have_one_line.Goals as goal

pub returns : goal.returns
returns c = totals_have_one_line
