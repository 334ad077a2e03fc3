use Rattle.law_stated_tables.proofs.Others.{no_other_words}
use Rattle.law_stated_tables.proofs.laws.words_are_stated.Goals as goal

pub returns : goal.returns
returns c = no_other_words c.words_name_formats.ensures.one
