use Rattle.std.proofs.Common.{◌≡◌, List, ap, ◌∙◌}
use Rattle.track_shelf.specs.Files.{File, has_track}
use Rattle.track_shelf.specs.Memory.{ShelfState}
use Rattle.track_shelf.proofs.Finding.{some_same}
use Rattle.track_shelf.proofs.memory.MemoryShelfShelf.holds.Goals as goal

pub returns : goal.returns
returns c told tells =
    let now = c.args.self.now in
    let files : c.self.inside.files.now ≡ now.files = ap (λ (s : ShelfState). s.files) c.self.view_is in
    c.has_track.ensures
    ∙ ap (λ (fs : List File). has_track fs c.args.dump.now c.args.track) (files ∙ some_same now.files told tells)
