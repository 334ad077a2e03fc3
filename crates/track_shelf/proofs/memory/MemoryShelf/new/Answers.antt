use Rattle.std.proofs.Common.{[], List, ℕ, ap, ◌∙◌}
use Rattle.track_shelf.specs.Memory.{ShelfState, ahead_from}
use Rattle.track_shelf.proofs.Ahead.{none-places}
use Rattle.track_shelf.proofs.memory.MemoryShelf.new.Goals as goal

pub returns : goal.returns
returns c =
    let s : ShelfState = record { files = c.args.files.now; ahead = []; chunk = c.args.chunk; failing = c.args.failing.now; calls = 0; faults = 0 } in
    ap (λ (ps : List ℕ). record s { ahead = ahead_from c.args.files.now ps 0 0 }) c.new.ensures
    ∙ ap (λ (a : List (List ℕ)). record s { ahead = a }) (none-places c.args.files.now)
