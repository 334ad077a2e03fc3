use Rattle.flux_words.proofs.PeoplesWords.{reports_named}
use Rattle.flux_words.proofs.sector_words.reports_name_them.Goals as goal

pub returns : goal.returns
returns c = reports_named
