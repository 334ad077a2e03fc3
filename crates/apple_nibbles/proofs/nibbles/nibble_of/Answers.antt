use Rattle.apple_nibbles.specs.lemmas.NibbleLaws.{nibble-is}
use Rattle.apple_nibbles.proofs.nibbles.nibble_of.Goals as goal

pub returns : goal.returns
returns c = nibble-is c.args.value
