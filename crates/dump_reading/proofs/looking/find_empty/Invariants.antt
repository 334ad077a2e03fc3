use Rattle.std.proofs.Common.{◌≡◌, ◌<◌, ℕ, true, List, Some}
use Rattle.track_shelf.specs.Files.{File}
use Rattle.dump_reading.specs.Outcomes.{disk_of, has_files}
use Rattle.dump_reading.proofs.looking.find_empty.Given as goal

abbrev pub invariant-loop-number : goal.invariant-loop-number
invariant-loop-number g l = (files : List File) → g.H.Shelf.files l.shelf ≡ Some files → (k : ℕ) → k < l.number → has_files (disk_of l.dumps l.format) files k ≡ true
