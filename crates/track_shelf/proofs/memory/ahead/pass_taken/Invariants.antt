use Rattle.std.proofs.Common.{◌≡◌, ◌-◌, length}
use Rattle.track_shelf.specs.Memory.{ahead_from}
use Rattle.track_shelf.proofs.memory.ahead.pass_taken.Given as goal

abbrev pub invariant-loop-next : goal.invariant-loop-next
invariant-loop-next l =
    ahead_from l.files l.places l.next.number l.next.start ≡ ahead_from l.files l.places l.initial.next.number l.initial.next.start

abbrev pub decreases-loop-next : goal.decreases-loop-next
decreases-loop-next l = length l.places - l.next.number
