use Rattle.std.proofs.Common.{◌≡◌, ◌-◌, length, arith, subst, ap, ◌∙◌}
use Rattle.std.specs.Io.KnownBytes.{Appends}
use Rattle.flux_base.specs.Outside.{AppendsPart}
use Rattle.flux_base.specs.lemmas.Counting.{Counts-then}
use Rattle.sector_report.specs.Lines.{turn_text}
use Rattle.flux_cli.specs.Turns.{turn_line_of, turn_lines}
use Rattle.flux_cli.proofs.TurnLemmas.{wrote-turn, wrote-part}
use Rattle.flux_cli.proofs.turns.write_turn_lines.Goals as goal

pub returns-in-Err : goal.returns-in-Err
returns-in-Err g c =
    let indexes = c.args.flux.now.indexes in
    let turn = c.loop-turn.turn in
    let same : length c.indexes.result.now ≡ length indexes = ap length c.indexes.ensures.value in
    let line : c.turn_line-line.result.bytes ≡ turn_line_of indexes turn = c.turn_line-line.ensures ∙ ap (turn_text turn) c.turn_ticks.ensures in
    record {
      ok = tt;
      err = wrote-part (g.W.Sink.written c.args.sink.now) (g.W.Sink.written c.loop-turn.sink) (g.W.Sink.written c.write_line.new.sink) indexes turn (length indexes - 1)
          (omega arith) (omega (arith, same)) c.loop-turn.invariant.0
          (subst (AppendsPart (g.W.Sink.written c.loop-turn.sink) (g.W.Sink.written c.write_line.new.sink)) line c.in-Err.ensures.err);
      counts = Counts-then _ c.loop-turn.invariant.2 c.in-Err.ensures.counts;
    }

pub loop-turn-preserved : goal.loop-turn-preserved
loop-turn-preserved g c =
    let indexes = c.args.flux.now.indexes in
    let turn = c.loop-turn.turn in
    let same : length c.indexes.result.now ≡ length indexes = ap length c.indexes.ensures.value in
    let line : c.turn_line-line.result.bytes ≡ turn_line_of indexes turn = c.turn_line-line.ensures ∙ ap (turn_text turn) c.turn_ticks.ensures in (
      wrote-turn (g.W.Sink.written c.args.sink.now) (g.W.Sink.written c.loop-turn.sink) (g.W.Sink.written c.write_line.new.sink) indexes turn
          (omega arith) c.loop-turn.invariant.0
          (subst (Appends (g.W.Sink.written c.loop-turn.sink) (g.W.Sink.written c.write_line.new.sink)) line c.in-Ok.ensures.ok),
      omega (arith, same),
      Counts-then _ c.loop-turn.invariant.2 c.in-Ok.ensures.counts,
    )

pub returns : goal.returns
returns g c =
    let same : length c.indexes.result.now ≡ length c.args.flux.now.indexes = ap length c.indexes.ensures.value in
    let all : c.loop-turn.turn - 1 ≡ length c.args.flux.now.indexes - 1 = omega (arith, same, c.loop-turn.invariant.1) in
    record {
      ok = subst (λ n. Appends (g.W.Sink.written c.args.sink.now) (g.W.Sink.written c.loop-turn.sink) (turn_lines c.args.flux.now.indexes n)) all c.loop-turn.invariant.0;
      err = tt;
      counts = c.loop-turn.invariant.2;
    }
