use Rattle.sector_report.proofs.LineEnds.{sectors_have_one_line}
use Rattle.sector_report.proofs.laws.sectors_have_one_line.Goals as goal

pub returns : goal.returns
returns c = sectors_have_one_line
