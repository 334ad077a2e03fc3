use Rattle.frame_law.proofs.one_of_two.EitherRecording.header_after_sync.Goals as goal

pub returns-in-Left-for_both : goal.returns-in-Left-for_both
returns-in-Left-for_both g c = rw c.in-Left-for_both.is c.header_after_sync.ensures

pub returns-in-Right-for_both : goal.returns-in-Right-for_both
returns-in-Right-for_both g c = rw c.in-Right-for_both.is c.header_after_sync-2.ensures
