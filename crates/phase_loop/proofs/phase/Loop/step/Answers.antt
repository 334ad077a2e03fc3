use Rattle.phase_loop.proofs.Times.{stepped}
use Rattle.phase_loop.proofs.phase.Loop.step.Goals as goal

pub returns-clause-count : goal.returns-clause-count
returns-clause-count c start times holds =
    (stepped _ _ start times _ _ holds c.requires.later c.take.ensures.state c.take.ensures.count).counts

pub returns-clause-holds : goal.returns-clause-holds
returns-clause-holds c start times holds =
    (stepped _ _ start times _ _ holds c.requires.later c.take.ensures.state c.take.ensures.count).holds
