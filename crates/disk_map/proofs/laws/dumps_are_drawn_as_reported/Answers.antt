use Rattle.disk_map.proofs.DumpReports.{shows_reports}
use Rattle.disk_map.proofs.laws.dumps_are_drawn_as_reported.Goals as goal

pub returns : goal.returns
returns c = shows_reports
