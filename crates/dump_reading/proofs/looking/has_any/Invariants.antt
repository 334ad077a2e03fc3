use Rattle.std.proofs.Common.{◌≡◌, false, List, Some, take}
use Rattle.std.specs.List.{list_any}
use Rattle.sector_images.specs.Places.{tracks}
use Rattle.track_shelf.specs.Files.{File}
use Rattle.dump_reading.specs.Outcomes.{has_file}
use Rattle.dump_reading.proofs.looking.has_any.Given as goal

abbrev pub invariant-loop-number : goal.invariant-loop-number
invariant-loop-number g l = (files : List File) → g.H.Shelf.files l.shelf ≡ Some files → list_any (has_file l.stepping files l.dump) (take l.number (tracks l.format)) ≡ false
