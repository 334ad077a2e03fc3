use Rattle.std.proofs.Common.{◌≡◌, ◌<◌, ℕ, arith, length, subst}
use Rattle.std.specs.List.{flat_map, range_with_len}
use Rattle.std.specs.Io.KnownBytes.{Appends}
use Rattle.flux_base.specs.Outside.{AppendsPart}
use Rattle.flux_base.specs.lemmas.Counting.{Counts-then}
use Rattle.flux_engine.specs.lemmas.Pieces.{pieces_next, pieces_stop}
use Rattle.disk_summary.proofs.TurnNotes.{file-piece, file_text, turns-are}
use Rattle.disk_summary.proofs.turn_notes.write_uneven.Goals as goal

pub loop-number-preserved : goal.loop-number-preserved
loop-number-preserved g c =
    let dump = c.args.dump in
    let turns = c.args.turns.now in
    let founds = c.args.room.now in
    let n = c.loop-number.number in record {
      grew = pieces_next (file_text dump turns founds) (g.N.Sink.written c.args.notes.now) (g.N.Sink.written c.loop-number.notes) (g.N.Sink.written c.write_mean.new.notes) 0 n _
          (file-piece dump turns founds n c.track-track.result c.uneven_mean-mean.result c.track-track.ensures c.uneven_mean-mean.ensures) c.loop-number.invariant.grew
          c.in-Ok.ensures.ok;
      counts = Counts-then _ c.loop-number.invariant.counts c.in-Ok.ensures.counts;
    }

pub returns-in-Err : goal.returns-in-Err
returns-in-Err g c =
    let dump = c.args.dump in
    let turns = c.args.turns.now in
    let founds = c.args.room.now in
    let n = c.loop-number.number in
    let end = c.count-number-end.ensures in
    let all = c.requires.all in
    let test = c.loop-number-test.true in
    let below : n < length founds = omega (arith, end, all, test) in
    let old = g.N.Sink.written c.args.notes.now in
    let new = g.N.Sink.written c.write_mean.new.notes in record {
      ok = tt;
      err = subst (AppendsPart old new) (turns-are dump turns founds)
          (pieces_stop (file_text dump turns founds) old (g.N.Sink.written c.loop-number.notes) new 0 n (length founds) _ below
          (file-piece dump turns founds n c.track-track.result c.uneven_mean-mean.result c.track-track.ensures c.uneven_mean-mean.ensures) c.loop-number.invariant.grew
          c.in-Err.ensures.err);
      counts = Counts-then _ c.loop-number.invariant.counts c.in-Err.ensures.counts;
    }

pub returns : goal.returns
returns g c =
    let dump = c.args.dump in
    let turns = c.args.turns.now in
    let founds = c.args.room.now in
    let n = c.loop-number.number in
    let end = c.count-number-end.ensures in
    let all = c.requires.all in
    let past = c.loop-number-test.false in
    let done : n ≡ length founds = omega (arith, end, all, past) in
    let old = g.N.Sink.written c.args.notes.now in
    let new = g.N.Sink.written c.loop-number.notes in record {
      ok = subst (Appends old new) (turns-are dump turns founds)
          (subst (λ (k : ℕ). Appends old new (flat_map (file_text dump turns founds) (range_with_len 0 k))) done c.loop-number.invariant.grew);
      err = tt;
      counts = c.loop-number.invariant.counts;
    }
