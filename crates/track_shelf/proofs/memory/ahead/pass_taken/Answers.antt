use Rattle.std.proofs.Common.{◌≡◌, length, get_or, arith, ◌∙◌, sym, ap}
use Rattle.track_shelf.specs.Memory.{ahead_from, bytes_at}
use Rattle.track_shelf.proofs.Ahead.{none-ahead, pass}
use Rattle.track_shelf.proofs.memory.ahead.pass_taken.Goals as goal

pub loop-next-preserved : goal.loop-next-preserved
unfolding ahead_from
loop-next-preserved c =
    let next = c.loop-next.next in
    let size : length c.bytes_of.result.now ≡ length (bytes_at c.args.files.now (get_or c.args.places.now next.number 0)) = ap length c.bytes_of.ensures in
    pass (bytes_at c.args.files.now) c.args.places.now next.number 0 (omega arith) next.start (omega (arith, size))
    ∙ c.loop-next.invariant

pub returns-clause-end : goal.returns-clause-end
unfolding ahead_from
returns-clause-end c =
    let next = c.loop-next.next in
    sym c.loop-next.invariant ∙ none-ahead (bytes_at c.args.files.now) c.args.places.now next.number next.start (omega arith)
