use Rattle.std.proofs.Common.{◌≡◌, ◌+◌, ◌-◌, subst, arith}
use Rattle.flux_base.specs.lemmas.Counting.{Counts-then}
use Rattle.flux_writer.specs.inside.Writing.{IsReadyAt}
use Rattle.flux_writer.proofs.Parts.{next_word, next_word_fails}
use Rattle.flux_writer.proofs.track.write_part.Goals as goal

pub loop-place-preserved : goal.loop-place-preserved
loop-place-preserved g c =
    let i = c.loop-place.invariant in
    let part = c.args.part in
    let place = c.loop-place.place in
    let end = place + c.min-count.result in
    let least = c.min-count.ensures in
    let s = c.loop-place.stream in
    let n = c.write_word.new.stream in
    let number : (part.number + (place - part.from)) + (end - place) ≡ part.number + (end - part.from) = omega (arith, i.from, least, c.loop-place-test.true) in
    record {
      from = omega (arith, i.from, least, c.loop-place-test.true);
      to = omega (arith, least);
      written = next_word c.args.cells.now.cells part.from part.number c.args.nominal place end i.from (omega (arith, least, c.loop-place-test.true))
          (g.W.Sink.written c.args.sink.now) (g.W.Sink.written c.loop-place.sink) (g.W.Sink.written c.write_word.new.sink)
          c.args.stream.now.piece c.args.stream.now.position c.args.stream.now.time c.args.stream.now.indexes
          s.piece s.position s.time s.indexes i.written (omega (arith, least, c.requires.within)) n.piece n.position n.time n.indexes c.in-Ok.ensures.ok;
      ready = subst (λ k. IsReadyAt c.args.nominal n.position n.time k n.indexes) number c.in-Ok.ensures.ready;
      counts = Counts-then _ i.counts c.in-Ok.ensures.counts;
    }

pub returns-in-Err-clause-err : goal.returns-in-Err-clause-err
returns-in-Err-clause-err g c =
    let i = c.loop-place.invariant in
    let part = c.args.part in
    let least = c.min-count.ensures in
    let s = c.loop-place.stream in
    next_word_fails c.args.cells.now.cells part.from part.number c.args.nominal c.loop-place.place (c.loop-place.place + c.min-count.result) i.from (omega (arith, least, c.loop-place-test.true))
    (g.W.Sink.written c.args.sink.now) (g.W.Sink.written c.loop-place.sink) (g.W.Sink.written c.write_word.new.sink)
    c.args.stream.now.piece c.args.stream.now.position c.args.stream.now.time c.args.stream.now.indexes
    s.piece s.position s.time s.indexes i.written part.to (omega (arith, least)) c.requires.within c.in-Err.ensures.err
