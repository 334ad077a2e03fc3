use Rattle.sector_images.proofs.Words.{printed_words_name_formats, words_begin_with_letters, words_name_formats}
use Rattle.sector_images.proofs.laws.words_name_formats.Goals as goal

pub returns-clause-one : goal.returns-clause-one
returns-clause-one c = words_name_formats c.words_name_disks.ensures.one

pub returns-clause-printed : goal.returns-clause-printed
returns-clause-printed c = printed_words_name_formats c.words_name_disks.ensures.printed

pub returns-clause-letters : goal.returns-clause-letters
returns-clause-letters c = words_begin_with_letters
