use Rattle.std.proofs.Common.{arith}
use Rattle.flux_words.proofs.PeoplesWords.{no-digits-here}
use Rattle.flux_words.proofs.sector_words.are_digits_of.Goals as goal

pub returns-in-None : goal.returns-in-None
returns-in-None c = no-digits-here c.args.number c.args.most c.args.word.now (omega arith) c.in-None.ensures.none
