use Rattle.std.proofs.Common.{◌≡◌, map, ap, ◌∙◌}
use Rattle.track_shelf.specs.Files.{file_at}
use Rattle.track_shelf.specs.Memory.{ShelfState, bytes_at, cut_first, pieces_of, with_bytes}
use Rattle.track_shelf.proofs.Ahead.{opened-file}
use Rattle.track_shelf.proofs.memory.MemoryShelf.open.Goals as goal

pub returns-clause-opened : goal.returns-clause-opened
returns-clause-opened c =
    let now = c.args.self.now in
    let places = c.find_file-places.result.items in
    let path = c.args.path.now in
    let offset = c.args.offset in
    let files : c.self.inside.files.now ≡ now.files = ap (λ (s : ShelfState). s.files) (c.self.view_is ∙ c.in_ok-count_call.ensures.ok.1) in
    let found : map (bytes_at now.files) places ≡ pieces_of (file_at now.files path) = rw files at c.find_file-places.ensures in
    let ahead : c.opened.result.ahead ≡ with_bytes (cut_first offset (map (bytes_at now.files) places)) =
    ap (λ (s : ShelfState). s.ahead) c.opened.ensures ∙ ap (λ (s : ShelfState). with_bytes (cut_first offset (map (bytes_at s.files) places))) c.in_ok-count_call.ensures.ok.1 in
    opened-file now.files places (file_at now.files path) offset found c.is_empty.result c.is_empty.ensures c.if-is_empty.false c.opened.result.ahead ahead
