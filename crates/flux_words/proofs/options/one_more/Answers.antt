use Rattle.flux_words.proofs.OptionWords.{not-added}
use Rattle.flux_words.proofs.options.one_more.Goals as goal

pub returns-in-None : goal.returns-in-None
returns-in-None c = not-added c.args.options c.args.words.now _ c.in-Some.choice c.in-Some.ensures c.in-None.ensures

pub returns-in_default : goal.returns-in_default
returns-in_default c = λ found next. c.in_default.ensures (next.choice, found.1) next.is
