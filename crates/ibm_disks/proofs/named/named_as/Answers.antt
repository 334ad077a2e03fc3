use Rattle.std.proofs.Common.{arith}
use Rattle.ibm_disks.proofs.Names.{row-at, row-short}
use Rattle.ibm_disks.proofs.named.named_as.Goals as goal

pub returns-then-is-clause-short : goal.returns-then-is-clause-short
returns-then-is-clause-short c =
    row-short _ (row-at c.all_named-named-items.result.now c.loop-named.named-index _ (omega (arith, c.loop-named-test.true)) c.all_named-named-items.ensures)
