use Rattle.flux_help.proofs.Sizes.{size-is}
use Rattle.flux_help.proofs.unfit.size_with.Goals as goal

pub returns : goal.returns
returns c = size-is c.args.bytes c.of_bytes.result c.of_bytes.ensures.some c.of_bytes.ensures.none
