use Rattle.dump_identity.proofs.Complete.{complete-read}
use Rattle.dump_identity.proofs.laws.complete_is_read_whole.Goals as goal

pub returns : goal.returns
returns c = complete-read
