use Rattle.frame_law.proofs.one_of_two.EitherRecording.sector_of_name.Goals as goal

pub returns-in-Left-for_both-clause-none : goal.returns-in-Left-for_both-clause-none
returns-in-Left-for_both-clause-none g c = rw c.in-Left-for_both.is c.sector_of_name.ensures.none

pub returns-in-Right-for_both-clause-none : goal.returns-in-Right-for_both-clause-none
returns-in-Right-for_both-clause-none g c = rw c.in-Right-for_both.is c.sector_of_name-2.ensures.none
