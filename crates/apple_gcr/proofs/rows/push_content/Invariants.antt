use Rattle.apple_gcr.proofs.Content.{IsWritten}
use Rattle.apple_gcr.proofs.rows.push_content.Given as goal

abbrev pub invariant-loop-index : goal.invariant-loop-index
invariant-loop-index l = IsWritten l.initial.cells l.cells l.bytes l.index l.before
