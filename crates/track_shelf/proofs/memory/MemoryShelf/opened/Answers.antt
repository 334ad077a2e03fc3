use Rattle.std.proofs.Common.{List, ℕ, ap, map, ◌∙◌}
use Rattle.track_shelf.specs.Memory.{ShelfState, ahead_from, bytes_at, cut_first, with_bytes}
use Rattle.track_shelf.proofs.Ahead.{ahead-at}
use Rattle.track_shelf.proofs.memory.MemoryShelf.opened.Goals as goal

pub returns : goal.returns
returns c =
    let inside = c.self.inside in
    let files = inside.files.now in
    let s : ShelfState = record { files = files; ahead = ahead_from files inside.places.items inside.next.number inside.next.start; chunk = inside.chunk; failing = inside.failing.now; calls = inside.calls; faults = inside.faults } in
    ap (λ (a : List (List ℕ)). record s { ahead = a; faults = 0 }) (ahead-at files c.args.places.items c.args.start)
    ∙ ap (λ (now : ShelfState). record now { ahead = with_bytes (cut_first c.args.start (map (bytes_at now.files) c.args.places.items)); faults = 0 }) c.self.view_is
