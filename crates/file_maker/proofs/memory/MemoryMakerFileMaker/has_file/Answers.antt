use Rattle.std.proofs.Common.{◌∙◌, ap}
use Rattle.std.specs.List.{list_any}
use Rattle.std.specs.Option.{is_some}
use Rattle.file_maker.specs.Made.{Made, path_in}
use Rattle.file_maker.specs.Memory.{MakerState}
use Rattle.track_shelf.specs.Files.{file_at, has_path}
use Rattle.file_maker.proofs.Finding.{is_some-any, same_told}
use Rattle.file_maker.proofs.memory.MemoryMakerFileMaker.has_file.Goals as goal

pub returns : goal.returns
returns c told known =
    let path = path_in c.args.folder.now c.args.name.now in
    c.is_among.ensures
    ∙ ap (list_any (has_path path)) c.deref.ensures.value
    ∙ is_some-any (has_path path) c.self.inside.files.items
    ∙ ap (λ (s : MakerState). is_some (file_at s.made.files path)) c.self.view_is
    ∙ ap (λ (m : Made). is_some (file_at m.files path)) (same_told c.args.self.now.made told known)
