use Rattle.sector_report.proofs.LineWords.{sector_lines_tell, totals_are_no_sectors}
use Rattle.sector_report.proofs.laws.sector_lines_tell.Goals as goal

pub returns-clause-sectors : goal.returns-clause-sectors
returns-clause-sectors c = sector_lines_tell

pub returns-clause-totals : goal.returns-clause-totals
returns-clause-totals c = totals_are_no_sectors
