use Rattle.disk_map.proofs.Reports.{maps_of_reports}
use Rattle.disk_map.proofs.laws.maps_are_of_reports.Goals as goal

pub returns : goal.returns
returns c = maps_of_reports
