use Rattle.std.proofs.Common.{◌≡◌}
use Rattle.sector_images.specs.Places.{sectors_before}
use Rattle.sector_images.proofs.places.sectors_before.Given as goal

abbrev pub invariant-loop-before : goal.invariant-loop-before
invariant-loop-before l = l.sectors ≡ sectors_before l.format l.before
