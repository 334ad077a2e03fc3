use Rattle.law_captured_disks.proofs.Writing.{writes_captured_disks}
use Rattle.law_captured_disks.proofs.laws.written_disks_are_captured.Goals as goal

pub returns : goal.returns
returns c = writes_captured_disks c.streams_are_captures.ensures
