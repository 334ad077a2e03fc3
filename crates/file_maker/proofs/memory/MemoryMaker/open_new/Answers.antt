use Rattle.std.proofs.Common.{◌∙◌, Some, refl, sym, ap}
use Rattle.file_maker.specs.Made.{path_in}
use Rattle.track_shelf.specs.Files.{file_at}
use Rattle.file_maker.proofs.Finding.{none-found}
use Rattle.file_maker.proofs.memory.MemoryMaker.open_new.Goals as goal

pub returns-clause-new : goal.returns-clause-new
returns-clause-new c =
    let now = c.args.self.now in
    let path = path_in c.args.folder.now c.args.name.now in
    (none-found (file_at now.made.files path) (sym (c.has_file.ensures now.made refl) ∙ c.if-has_file.false), ap Some c.clear.ensures.items)
