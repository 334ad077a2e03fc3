use Rattle.std.proofs.Common.{◌≡◌, ◌≤◌, ◌+◌, ◌-◌, ◌*◌, ◌/◌, ap, sym, subst, arith}
use Rattle.std.specs.Int.Count.{count_leading_zeros}
use Rattle.flux_base.specs.lemmas.Counting.{Counts-then}
use Rattle.flux_writer.specs.Written.{cell_time}
use Rattle.flux_writer.specs.inside.Writing.{IsReadyAt, IsWritten, indexes_from, next_position, times_between}
use Rattle.flux_writer.proofs.CellTimes.{times_between-none}
use Rattle.flux_writer.proofs.Parts.{IsReadyAt-next, in_time, next_one, next_one_fails}
use Rattle.flux_writer.proofs.Words.{word_step, none_in_word}
use Rattle.flux_writer.proofs.track.write_word.Goals as goal

pub overflow_sub-time : goal.overflow_sub-time
overflow_sub-time g c =
    let i = c.loop-ahead.invariant in
    let cells = c.args.cells.now.cells in
    let part = c.args.part in
    let left = c.loop-ahead.left in
    let behind = 31 - count_leading_zeros 32 c.loop-ahead.ahead in
    let one = part.to - 1 - behind in
    let place = part.to - left in
    let step = word_step cells part.to left c.loop-ahead.ahead (omega (arith, i.left)) c.requires.within i.ahead (omega (arith, c.loop-ahead-test.true)) (omega (arith, c.loop-ahead.auto.ahead-fits)) in
    let f = step.first in
    omega (arith, f.inside, i.left)

pub overflow_sub-ahead : goal.overflow_sub-ahead
overflow_sub-ahead g c =
    let i = c.loop-ahead.invariant in
    let cells = c.args.cells.now.cells in
    let part = c.args.part in
    let left = c.loop-ahead.left in
    let behind = 31 - count_leading_zeros 32 c.loop-ahead.ahead in
    let one = part.to - 1 - behind in
    let place = part.to - left in
    let step = word_step cells part.to left c.loop-ahead.ahead (omega (arith, i.left)) c.requires.within i.ahead (omega (arith, c.loop-ahead-test.true)) (omega (arith, c.loop-ahead.auto.ahead-fits)) in
    let f = step.first in
    omega (arith, step.one_cell, f.rest)

pub transition-requires-clause-order : goal.transition-requires-clause-order
transition-requires-clause-order g c =
    let i = c.loop-ahead.invariant in
    let cells = c.args.cells.now.cells in
    let part = c.args.part in
    let left = c.loop-ahead.left in
    let behind = 31 - count_leading_zeros 32 c.loop-ahead.ahead in
    let one = part.to - 1 - behind in
    let place = part.to - left in
    let step = word_step cells part.to left c.loop-ahead.ahead (omega (arith, i.left)) c.requires.within i.ahead (omega (arith, c.loop-ahead-test.true)) (omega (arith, c.loop-ahead.auto.ahead-fits)) in
    let f = step.first in
    let count : part.number + (part.to - part.from) - behind ≡ (part.number + (one - part.from)) + 1 = omega (arith, f.inside, i.left, c.requires.order) in
    let end : (part.number + (part.to - part.from) - behind) * c.args.nominal / 1024 ≡ cell_time c.args.nominal (part.number + (one - part.from)) = ap (λ n. n * c.args.nominal / 1024) count in
    subst (λ time. c.loop-ahead.stream.time ≤ time) (sym end)
    (in_time c.args.nominal c.loop-ahead.stream.position c.loop-ahead.stream.time (part.number + (place - part.from))
    (part.number + (one - part.from)) c.loop-ahead.stream.indexes i.ready (omega (arith, i.left, f.inside)))

pub loop-ahead-preserved : goal.loop-ahead-preserved
loop-ahead-preserved g c =
    let i = c.loop-ahead.invariant in
    let cells = c.args.cells.now.cells in
    let part = c.args.part in
    let left = c.loop-ahead.left in
    let behind = 31 - count_leading_zeros 32 c.loop-ahead.ahead in
    let one = part.to - 1 - behind in
    let place = part.to - left in
    let step = word_step cells part.to left c.loop-ahead.ahead (omega (arith, i.left)) c.requires.within i.ahead (omega (arith, c.loop-ahead-test.true)) (omega (arith, c.loop-ahead.auto.ahead-fits)) in
    let f = step.first in
    let count : part.number + (part.to - part.from) - behind ≡ (part.number + (one - part.from)) + 1 = omega (arith, f.inside, i.left, c.requires.order) in
    let end : (part.number + (part.to - part.from) - behind) * c.args.nominal / 1024 ≡ cell_time c.args.nominal (part.number + (one - part.from)) = ap (λ n. n * c.args.nominal / 1024) count in
    let e = c.in-Ok.ensures in
    let s = c.loop-ahead.stream in
    let n = c.transition.new.self in
    let next : one + 1 ≡ part.to - behind = omega (arith, f.inside, i.left) in
    let number : (part.number + (one - part.from)) + 1 ≡ part.number + ((part.to - behind) - part.from) = omega (arith, f.inside, i.left, c.requires.order) in
    record {
      left = omega (arith, f.inside, i.left);
      ahead = omega (arith, step.one_cell, f.rest);
      written = subst (λ k. IsWritten (g.W.Sink.written c.args.sink.now) (g.W.Sink.written c.transition.new.sink)
          c.args.stream.now.piece c.args.stream.now.position c.args.stream.now.time c.args.stream.now.indexes
          n.piece n.position n.time n.indexes (times_between cells part.from k part.number c.args.nominal)) next
          (next_one cells part.from part.number c.args.nominal place one
          part.to (omega (arith, i.left, c.requires.order)) (omega (arith, f.inside, i.left)) f.one f.nowhere
          (g.W.Sink.written c.args.sink.now) (g.W.Sink.written c.loop-ahead.sink) (g.W.Sink.written c.transition.new.sink)
          c.args.stream.now.piece c.args.stream.now.position c.args.stream.now.time c.args.stream.now.indexes
          s.piece s.position s.time s.indexes i.written ((part.number + (part.to - part.from) - behind) * c.args.nominal / 1024) end n.piece n.position n.time n.indexes e.holds.ok e.position e.time e.indexes);
      ready = rw (e.position, e.time, e.indexes, ← number)
          (subst (λ time. IsReadyAt c.args.nominal (next_position s.position s.time time) time ((part.number + (one - part.from)) + 1) (indexes_from time s.indexes)) (sym end)
          (IsReadyAt-next c.args.nominal s.position s.time
          (part.number + (place - part.from)) (part.number + (one - part.from)) s.indexes i.ready (omega (arith, i.left, f.inside))));
      counts = Counts-then _ i.counts e.holds.counts;
    }

pub returns-in-Err-clause-err : goal.returns-in-Err-clause-err
returns-in-Err-clause-err g c =
    let i = c.loop-ahead.invariant in
    let cells = c.args.cells.now.cells in
    let part = c.args.part in
    let left = c.loop-ahead.left in
    let behind = 31 - count_leading_zeros 32 c.loop-ahead.ahead in
    let one = part.to - 1 - behind in
    let place = part.to - left in
    let step = word_step cells part.to left c.loop-ahead.ahead (omega (arith, i.left)) c.requires.within i.ahead (omega (arith, c.loop-ahead-test.true)) (omega (arith, c.loop-ahead.auto.ahead-fits)) in
    let f = step.first in
    let count : part.number + (part.to - part.from) - behind ≡ (part.number + (one - part.from)) + 1 = omega (arith, f.inside, i.left, c.requires.order) in
    let end : (part.number + (part.to - part.from) - behind) * c.args.nominal / 1024 ≡ cell_time c.args.nominal (part.number + (one - part.from)) = ap (λ n. n * c.args.nominal / 1024) count in
    let s = c.loop-ahead.stream in
    next_one_fails cells part.from part.number c.args.nominal place one
    part.to (omega (arith, i.left, c.requires.order)) (omega (arith, f.inside, i.left)) f.one f.nowhere
    (g.W.Sink.written c.args.sink.now) (g.W.Sink.written c.loop-ahead.sink) (g.W.Sink.written c.transition.new.sink)
    c.args.stream.now.piece c.args.stream.now.position c.args.stream.now.time c.args.stream.now.indexes
    s.piece s.position s.time s.indexes i.written ((part.number + (part.to - part.from) - behind) * c.args.nominal / 1024) end (omega (arith, f.inside, i.left)) c.requires.within c.in-Err.ensures.holds.err

pub returns-clause-ok : goal.returns-clause-ok
returns-clause-ok g c =
    let i = c.loop-ahead.invariant in
    let cells = c.args.cells.now.cells in
    let part = c.args.part in
    let left = c.loop-ahead.left in
    let none = none_in_word cells part.to left c.loop-ahead.ahead (omega (arith, i.left)) c.requires.within i.ahead (omega (arith, c.loop-ahead-test.false)) in
    subst (IsWritten (g.W.Sink.written c.args.sink.now) (g.W.Sink.written c.loop-ahead.sink)
    c.args.stream.now.piece c.args.stream.now.position c.args.stream.now.time c.args.stream.now.indexes
    c.loop-ahead.stream.piece c.loop-ahead.stream.position c.loop-ahead.stream.time c.loop-ahead.stream.indexes)
    (sym (times_between-none cells part.from part.number c.args.nominal (part.to - left) part.to
    (omega (arith, i.left, c.requires.order)) (omega arith) c.requires.within none)) i.written
