use Rattle.law_stated_tables.proofs.Numbers.{numbers_are_stated}
use Rattle.law_stated_tables.proofs.laws.numbers_are_stated.Goals as goal

pub returns : goal.returns
returns c = numbers_are_stated
