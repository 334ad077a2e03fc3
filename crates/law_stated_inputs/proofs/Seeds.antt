-- Numbers of trials without a hole.
use Rattle.std.proofs.Common.{arith}
use Rattle.law_stated_inputs.specs.Laws.{SeedsAreStated, SeedsWithoutHoles}

pub seeds : SeedsAreStated
seeds seed = (λ zeros. omega (arith, zeros), λ none. omega (arith, none))

pub without : SeedsWithoutHoles
without millions few less = omega (arith, less)
