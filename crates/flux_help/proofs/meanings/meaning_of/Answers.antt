use Rattle.std.proofs.Common.{arith}
use Rattle.flux_help.proofs.Meant.{row-at, row-short}
use Rattle.flux_help.proofs.meanings.meaning_of.Goals as goal

pub returns-then-are_same_letters-clause-short : goal.returns-then-are_same_letters-clause-short
returns-then-are_same_letters-clause-short c =
    row-short _ (row-at c.all_meanings-meaning-items.result.now c.loop-meaning.meaning-index _ (omega (arith, c.loop-meaning-test.true)) c.all_meanings-meaning-items.ensures)
