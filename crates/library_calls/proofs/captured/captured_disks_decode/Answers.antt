use Rattle.library_calls.proofs.CapturedDisks.{captured_disks_decode, erased_disks_decode}
use Rattle.library_calls.proofs.captured.captured_disks_decode.Goals as goal

pub returns-clause-whole : goal.returns-clause-whole
returns-clause-whole c = captured_disks_decode c.captured_plans_are_read.ensures.whole

pub returns-clause-erased : goal.returns-clause-erased
returns-clause-erased c = erased_disks_decode c.captured_plans_are_read.ensures.erased c.captured_plans_are_read.ensures.one_piece
