use Rattle.phase_loop.proofs.Times.{first_holds}
use Rattle.phase_loop.proofs.phase.Loop.start.Goals as goal

pub returns-clause-holds : goal.returns-clause-holds
returns-clause-holds c = first_holds _ _ _ c.restart.ensures
