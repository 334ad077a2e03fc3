use Rattle.disk_summary.proofs.Parsed.{parses}
use Rattle.disk_summary.proofs.laws.summaries_parse.Goals as goal

pub returns : goal.returns
returns c = parses
