use Rattle.kryo_stream.proofs.SpellingLaws.{spelling-spells, spelling-prefix}
use Rattle.kryo_stream.proofs.laws.spelling_law.Goals as goal

pub returns-clause-spells : goal.returns-clause-spells
returns-clause-spells c = spelling-spells

pub returns-clause-prefix : goal.returns-clause-prefix
returns-clause-prefix c = spelling-prefix
