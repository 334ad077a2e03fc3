use Rattle.std.proofs.Common.{◌∷◌}
use Rattle.flux_words.proofs.archive_words.archive_asked.Goals as goal

pub returns-in_default : goal.returns-in_default
returns-in_default c = λ asked are. c.in_default.ensures (asked.disk, asked.folder ∷ asked.dumps) are.disk
