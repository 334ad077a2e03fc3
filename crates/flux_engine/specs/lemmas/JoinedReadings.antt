-- What holds of each reading of a track, by the lists of its captures, and of each
-- capture, by those of the clocks.
use Rattle.std.specs.Prelude.{◌<◌, ℕ, zero, suc, List, [], ◌∷◌, get_or, length}
use Rattle.std.proofs.Common.{arith}
use Rattle.turn_merge.specs.Readings.{NotedReading}
use Rattle.turn_merge.specs.declared.clock.Clock.{Clock}
use Rattle.turn_merge.specs.declared.clock.Clock.TheVariants.{Following, Held}
use Rattle.flux_engine.specs.Captured.{IsUsed, joined_by}
use Rattle.flux_engine.specs.Plans.{joined}
use Rattle.flux_engine.specs.declared.plan.Clocks.{Clocks}
use Rattle.flux_engine.specs.declared.plan.Clocks.TheVariants.{Both, FollowingAlone}
use Rattle.flux_engine.specs.lemmas.Each.{Each, each-append, each-left, each-right}

module _ (P : NotedReading → Type 0) where
  -- what holds of all readings of each capture, holds of all of them
  pub each_joined : (captures : List (List NotedReading))
      → ((q : ℕ) → q < length captures → Each P (get_or captures q [])) → Each P (joined captures)
  each_joined [] each = tt
  each_joined (noted ∷ captures) each =
      each-append P noted (joined captures) (each 0 (omega arith))
      (each_joined captures (λ q low. each (suc q) (omega (arith, low))))

  pub each_capture : (captures : List (List NotedReading)) (q : ℕ) → q < length captures
      → Each P (joined captures) → Each P (get_or captures q [])
  each_capture [] q low all = absurd (omega (arith, low))
  each_capture (noted ∷ captures) zero low all = each-left P noted (joined captures) all
  each_capture (noted ∷ captures) (suc q) low all =
      each_capture captures q (omega (arith, low)) (each-right P noted (joined captures) all)

  -- the same of those by each of the clocks
  pub each_by_clocks : (clocks : Clocks) (by_clock : Clock → List NotedReading)
      → ((clock : Clock) → IsUsed clocks clock → Each P (by_clock clock))
      → Each P (joined_by clocks by_clock)
  each_by_clocks FollowingAlone by_clock each = each Following tt
  each_by_clocks Both by_clock each =
      each-append P (by_clock Following) (by_clock Held) (each Following tt) (each Held tt)

  pub each_clock : (clocks : Clocks) (by_clock : Clock → List NotedReading) (clock : Clock)
      → IsUsed clocks clock → Each P (joined_by clocks by_clock)
      → Each P (by_clock clock)
  each_clock FollowingAlone by_clock Following used all = all
  each_clock FollowingAlone by_clock Held used all = absurd used
  each_clock Both by_clock Following used all = each-left P (by_clock Following) (by_clock Held) all
  each_clock Both by_clock Held used all = each-right P (by_clock Following) (by_clock Held) all
