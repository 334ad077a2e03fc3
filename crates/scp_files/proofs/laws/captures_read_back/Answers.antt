use Rattle.scp_files.proofs.Finishing.{reads_back}
use Rattle.scp_files.proofs.laws.captures_read_back.Goals as goal

pub returns : goal.returns
returns c = reads_back c.capture_law.ensures.reads
