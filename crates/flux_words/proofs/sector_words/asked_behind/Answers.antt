use Rattle.std.specs.Option.{option_map}
use Rattle.flux_words.specs.SectorWords.{ArePlaceWords, asked_sector, sector_options}
use Rattle.flux_words.proofs.OptionWords.{all-named}
use Rattle.flux_words.proofs.SectorWords.{place-past}
use Rattle.flux_words.proofs.sector_words.asked_behind.Goals as goal

pub returns : goal.returns
returns c =
    all-named sector_options ArePlaceWords (place-past c.words_name_formats.ensures.letters) c.args.words.now c.options_in.result.1.now c.options_in.result.0
    c.options_in.ensures.there c.options_in.ensures.all (option_map asked_sector c.asked_with.result) c.asked_with.ensures
