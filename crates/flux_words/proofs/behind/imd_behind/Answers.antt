use Rattle.flux_words.proofs.behind.imd_behind.Goals as goal

pub returns-in-None : goal.returns-in-None
returns-in-None c = λ asked are. c.in-None.ensures are.0 are.1
