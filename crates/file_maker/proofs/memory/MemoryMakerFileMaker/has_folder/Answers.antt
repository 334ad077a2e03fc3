use Rattle.std.proofs.Common.{◌∙◌, ap}
use Rattle.std.specs.List.{list_any}
use Rattle.std.specs.Str.{bytes_eq}
use Rattle.file_maker.specs.Made.{Made, has_folder}
use Rattle.file_maker.specs.Memory.{MakerState}
use Rattle.file_maker.proofs.Finding.{any-map, same_told}
use Rattle.file_maker.proofs.memory.MemoryMakerFileMaker.has_folder.Goals as goal

pub returns : goal.returns
returns c told known =
    let folder = c.args.folder.now in
    c.is_folder.ensures
    ∙ ap (list_any (λ path. bytes_eq folder path.bytes)) c.deref.ensures.value
    ∙ any-map (bytes_eq folder) (λ path. path.bytes) c.self.inside.folders.items
    ∙ ap (λ (s : MakerState). has_folder folder s.made.folders) c.self.view_is
    ∙ ap (λ (m : Made). has_folder folder m.folders) (same_told c.args.self.now.made told known)
