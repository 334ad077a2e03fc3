use Rattle.std.proofs.Common.{◌≡◌, Some}
use Rattle.file_maker.specs.Made.{Made}
use Rattle.disk_files.proofs.Making.{NoneOf}
use Rattle.disk_files.proofs.writing.first_there.Given as goal

abbrev pub invariant-loop-number : goal.invariant-loop-number
invariant-loop-number g l = (told : Made) → g.M.FileMaker.made l.maker ≡ Some told → NoneOf told.files l.folder l.format l.number
