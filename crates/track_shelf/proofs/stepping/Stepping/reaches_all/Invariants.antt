use Rattle.std.proofs.Common.{◌≡◌, true, take}
use Rattle.std.specs.List.{list_all}
use Rattle.sector_images.specs.Places.{tracks}
use Rattle.track_shelf.specs.Stepping.{reaches}
use Rattle.track_shelf.proofs.stepping.Stepping.reaches_all.Given as goal

abbrev pub invariant-loop-number : goal.invariant-loop-number
invariant-loop-number l = list_all (reaches l.fn.self) (take l.number (tracks l.fn.format)) ≡ true
