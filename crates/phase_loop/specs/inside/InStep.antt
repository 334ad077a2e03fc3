-- Two loops that have fallen in step.
use Rattle.std.specs.Prelude.{◌≡◌, List, length}
use Rattle.phase_loop.specs.Start.{INTERVALS}
use Rattle.phase_loop.specs.State.{LoopState}
use Rattle.phase_loop.specs.inside.Stretch.{counts_of}

-- they stand at one place by one period, and have full windows of the same counts and one band,
-- whatever their first periods are
pub record StandAlike (a b : LoopState) : Type 0 where
  pub band : a.band ≡ b.band
  pub place : a.place ≡ b.place
  pub period : a.period ≡ b.period
  pub full : length a.recent ≡ INTERVALS
  pub full' : length b.recent ≡ INTERVALS
  pub counts : counts_of a.recent ≡ counts_of b.recent
