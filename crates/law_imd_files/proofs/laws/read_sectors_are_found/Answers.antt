use Rattle.law_imd_files.proofs.Reading.{book_told, coming_streams, good_in_book, in_book}
use Rattle.law_imd_files.proofs.laws.read_sectors_are_found.Goals as goal

pub returns-clause-stands : goal.returns-clause-stands
returns-clause-stands c = in_book c.standing_sectors_are_named.ensures

pub returns-clause-read : goal.returns-clause-read
returns-clause-read c format rate by_rate track streams found are =
    good_in_book c.standing_sectors_are_named.ensures format rate by_rate track streams found are c.rewritten_tracks_are_read.ensures c.plans_are_right.ensures.good

pub returns-clause-streams : goal.returns-clause-streams
returns-clause-streams c = coming_streams

pub returns-clause-told : goal.returns-clause-told
returns-clause-told c = book_told
