use Rattle.flux_words.proofs.behind.archive_behind.Goals as goal

pub returns-in_default : goal.returns-in_default
returns-in_default c = λ asked are. c.in_default.ensures are.0 are.1
