use Rattle.std.specs.Option.{option_map}
use Rattle.flux_words.specs.Asked.{asked_of}
use Rattle.flux_words.proofs.CommandWords.{files-or}
use Rattle.flux_words.proofs.behind.write_behind.Goals as goal

pub returns-in-None : goal.returns-in-None
returns-in-None c = files-or c.args.others.now (option_map asked_of c.files_behind.result) c.in-None.ensures.none c.files_behind.ensures
