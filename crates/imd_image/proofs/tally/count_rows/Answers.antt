use Rattle.imd_image.proofs.Counting.{row_known}
use Rattle.imd_image.proofs.tally.count_rows.Goals as goal

pub is_so-requires : goal.is_so-requires
is_so-requires c = row_known c.args.book.now c.args.rows.now c.loop-index.index c.requires.known c.loop-index-test.true
