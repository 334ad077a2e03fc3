use Rattle.std.proofs.Common.{◌∙◌}
use Rattle.sector_images.proofs.Computed.{size_is_sum}
use Rattle.sector_images.proofs.places.image_size.Goals as goal

pub returns-clause-sum : goal.returns-clause-sum
returns-clause-sum c = c.geometry.ensures.image_size ∙ size_is_sum c.args.format
