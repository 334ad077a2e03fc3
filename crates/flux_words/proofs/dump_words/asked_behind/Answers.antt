use Rattle.std.specs.Option.{option_map}
use Rattle.flux_words.specs.DumpWords.{AreDiskWords, asked_dumps, dump_options}
use Rattle.flux_words.proofs.DumpWords.{disk-past}
use Rattle.flux_words.proofs.OptionWords.{all-named}
use Rattle.flux_words.proofs.dump_words.asked_behind.Goals as goal

pub returns : goal.returns
returns c =
    all-named dump_options AreDiskWords (disk-past c.words_name_formats.ensures.letters) c.args.words.now c.options_in.result.1.now c.options_in.result.0
    c.options_in.ensures.there c.options_in.ensures.all (option_map asked_dumps c.asked_with.result) c.asked_with.ensures
