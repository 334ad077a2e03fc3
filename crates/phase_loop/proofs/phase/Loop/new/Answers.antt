use Rattle.std.proofs.Common.{refl}
use Rattle.phase_loop.proofs.Times.{first_holds}
use Rattle.phase_loop.proofs.phase.Loop.new.Goals as goal

pub returns : goal.returns
returns c = rw (c.in_ok-window.ensures, c.about.ensures) (first_holds _ _ _ refl)
