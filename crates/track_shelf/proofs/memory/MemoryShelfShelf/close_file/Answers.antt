use Rattle.std.proofs.Common.{◌≡◌, ◌≤◌, Some, ap, arith}
use Rattle.flux_base.specs.Outside.{GREATEST_COUNT}
use Rattle.track_shelf.specs.Memory.{ShelfState}
use Rattle.track_shelf.proofs.Closing.{risen_by-is}
use Rattle.track_shelf.proofs.memory.MemoryShelfShelf.close_file.Goals as goal

pub returns-clause-counted : goal.returns-clause-counted
returns-clause-counted c =
    let mine : c.self.inside.faults ≡ c.args.self.now.faults = ap (λ (s : ShelfState). s.faults) c.self.view_is in
    let others : c.file.inside.faults ≡ c.args.file.faults = ap (λ (s : ShelfState). s.faults) c.file.view_is in
    let few : c.args.self.now.faults ≤ GREATEST_COUNT = omega (arith, mine) in
    let is = risen_by-is c.args.file.faults c.args.self.now.faults few in
    ap Some (omega (arith, c.saturating_add-self-inside.ensures, mine, others, is))
