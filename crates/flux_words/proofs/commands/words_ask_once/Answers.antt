use Rattle.flux_words.proofs.CommandWords.{asked-once}
use Rattle.flux_words.proofs.commands.words_ask_once.Goals as goal

pub returns : goal.returns
returns c = asked-once c.words_name_formats.ensures.one c.words_name_formats.ensures.letters
