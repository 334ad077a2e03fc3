use Rattle.std.proofs.Common.{◌≤◌}
use Rattle.test_base.proofs.tests.verdicts.others_as_they_come.Given as goal

abbrev pub invariant-loop-sector : goal.invariant-loop-sector
invariant-loop-sector g l = l.others.notes ≤ l.sector
