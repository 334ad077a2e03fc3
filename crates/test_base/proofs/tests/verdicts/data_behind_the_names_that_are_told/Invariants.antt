use Rattle.std.proofs.Common.{◌≤◌}
use Rattle.test_base.proofs.tests.verdicts.data_behind_the_names_that_are_told.Given as goal

abbrev pub invariant-loop-empty : goal.invariant-loop-empty
invariant-loop-empty g l = l.others.notes ≤ l.empty
