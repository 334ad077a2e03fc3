use Rattle.flux_words.proofs.behind.files_behind.Goals as goal

pub returns-in_default : goal.returns-in_default
returns-in_default c = λ asked are. c.in_default.ensures.none are.0 are.1 are.2
