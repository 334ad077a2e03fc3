use Rattle.std.proofs.Common.{List, take, sym, ap, ◌∙◌}
use Rattle.std.proofs.lemmas.List.{take_all}
use Rattle.track_shelf.specs.DumpKinds.{kind_of_folder, names_in}
use Rattle.track_shelf.specs.Files.{File}
use Rattle.track_shelf.proofs.DumpKinds.{names-more, no-names}
use Rattle.track_shelf.proofs.memory.files.kind_of_folder.Goals as goal

pub loop-file-init : goal.loop-file-init
loop-file-init c = no-names

pub loop-file-preserved : goal.loop-file-preserved
loop-file-preserved c =
    let files = c.args.files.now in
    let folder = c.args.folder.now in
    let number = c.loop-file.file-index in
    c.with_file-kind.ensures (names_in (take number files) folder) c.loop-file.invariant
    ∙ sym (ap kind_of_folder (names-more files folder number c.file-item.result c.loop-file-test.true c.file-item.is))

pub returns : goal.returns
returns c =
    c.loop-file.invariant
    ∙ ap (λ (fs : List File). kind_of_folder (names_in fs c.args.folder.now)) (take_all c.loop-file.file-index c.args.files.now c.loop-file-test.false)
