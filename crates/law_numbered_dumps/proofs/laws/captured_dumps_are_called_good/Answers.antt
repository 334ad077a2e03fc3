use Rattle.law_numbered_dumps.proofs.Called.{called_good}
use Rattle.law_numbered_dumps.proofs.laws.captured_dumps_are_called_good.Goals as goal

pub returns : goal.returns
returns c dump files came stepping format image totals is captured none numbers =
    called_good c.captured_dumps_are_read.ensures.well c.plans_are_right.ensures.readings dump files came stepping format image totals is captured none numbers
