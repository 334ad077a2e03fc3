use Rattle.flux_help.proofs.Written.{numbers-are}
use Rattle.flux_help.proofs.unfit.numbers_of.Goals as goal

pub returns : goal.returns
returns c = numbers-are c.args.word.now c.of_word.result c.of_word.ensures.some c.of_word.ensures.short c.of_word.ensures.none
