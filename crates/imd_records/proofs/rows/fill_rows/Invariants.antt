use Rattle.imd_records.proofs.Order.{AreRowsBelow}
use Rattle.imd_records.proofs.rows.fill_rows.Given as goal

abbrev pub invariant-loop-number : goal.invariant-loop-number
invariant-loop-number l = AreRowsBelow l.book l.code l.number l.rows.items
