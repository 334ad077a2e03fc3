use Rattle.frame_law.proofs.one_of_two.EitherRecording.name_after_sync.Goals as goal

pub returns-in-Left-for_both-clause-none : goal.returns-in-Left-for_both-clause-none
returns-in-Left-for_both-clause-none g c = rw c.in-Left-for_both.is c.name_after_sync.ensures.none

pub returns-in-Right-for_both-clause-none : goal.returns-in-Right-for_both-clause-none
returns-in-Right-for_both-clause-none g c = rw c.in-Right-for_both.is c.name_after_sync-2.ensures.none
