use Rattle.macintosh_gcr.specs.lemmas.RowLaws.{low-sector}
use Rattle.macintosh_gcr.proofs.recording.MacintoshGcrLayout.append_row.Goals as goal

pub push_row-requires-clause-sector : goal.push_row-requires-clause-sector
push_row-requires-clause-sector c = low-sector c.args.of.now.track c.args.of.now.sector c.requires.sector.most
