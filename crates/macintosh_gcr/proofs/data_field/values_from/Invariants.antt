use Rattle.std.proofs.Common.{◌≡◌, length}
use Rattle.macintosh_gcr.specs.Coding.{AreSixBits}
use Rattle.macintosh_gcr.specs.Sectors.{NibblesAt}
use Rattle.macintosh_gcr.proofs.data_field.values_from.Given as goal

abbrev pub invariant-loop-index : goal.invariant-loop-index
invariant-loop-index l = (length l.values.items ≡ l.index) × AreSixBits l.values.items × NibblesAt l.frame l.from l.values.items
