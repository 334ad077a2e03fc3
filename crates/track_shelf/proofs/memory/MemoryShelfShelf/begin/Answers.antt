use Rattle.std.proofs.Common.{◌≡◌, Some, map, ap, ◌∙◌}
use Rattle.std.specs.List.{concat}
use Rattle.sector_images.specs.Places.{tracks}
use Rattle.track_shelf.specs.Files.{track_bytes}
use Rattle.track_shelf.specs.Memory.{ShelfState, bytes_at, with_bytes}
use Rattle.track_shelf.proofs.Ahead.{all-joined}
use Rattle.track_shelf.proofs.memory.MemoryShelfShelf.begin.Goals as goal

pub returns-in-Ok-clause-left : goal.returns-in-Ok-clause-left
returns-in-Ok-clause-left c =
    let now = c.args.self.now in
    let places = c.in-Ok.places.items in
    let counted = c.in_ok-count_call.ensures.ok.1 in
    let files : c.self.inside.files.now ≡ now.files = ap (λ (s : ShelfState). s.files) (c.self.view_is ∙ counted) in
    let found : map (bytes_at now.files) places ≡ map (track_bytes now.files c.args.folder.now) (tracks c.args.format) = rw files at c.in-Ok.ensures.found.1 in
    let ahead : c.read_at.new.self.ahead ≡ with_bytes (map (bytes_at now.files) places) =
    ap (λ (s : ShelfState). s.ahead) c.read_at.ensures ∙ ap (λ (s : ShelfState). with_bytes (map (bytes_at s.files) places)) counted in
    ap Some (ap concat (ahead ∙ ap with_bytes found) ∙ all-joined now.files c.args.folder.now c.args.format)
