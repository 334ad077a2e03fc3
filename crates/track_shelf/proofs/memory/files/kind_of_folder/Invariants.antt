use Rattle.std.proofs.Common.{◌≡◌, take}
use Rattle.track_shelf.specs.DumpKinds.{kind_of_folder, names_in}
use Rattle.track_shelf.proofs.memory.files.kind_of_folder.Given as goal

abbrev pub invariant-loop-file : goal.invariant-loop-file
invariant-loop-file l = l.kind ≡ kind_of_folder (names_in (take l.file-index l.fn.files) l.fn.folder)
