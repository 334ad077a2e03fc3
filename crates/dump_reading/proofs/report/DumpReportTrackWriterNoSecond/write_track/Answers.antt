use Rattle.std.proofs.Common.{true, false, sym, true≢false}
use Rattle.std.proofs.KnownBytes.{Appends-trans}
use Rattle.flux_base.specs.lemmas.Blaming.{CountsBy-image, CountsBy-notes, CountsBy-then}
use Rattle.flux_base.specs.lemmas.Parts.{AppendsPart-first, AppendsPart-second}
use Rattle.dump_reading.proofs.report.DumpReportTrackWriterNoSecond.write_track.Goals as goal

pub returns-in-Ok-write_others-clause-wrote : goal.returns-in-Ok-write_others-clause-wrote
returns-in-Ok-write_others-clause-wrote g c = λ readings others stands stand.
    let e = rw c.sectors_of.ensures at c.in-Ok-write_lines.ensures in
    let passed = rw c.deref.ensures.0 at c.in-Ok-write_passed.ensures.ok in
    let told = rw (stand.told, stand.untold) at c.in-Ok-write_others.ensures.ok in (
      c.in-Ok.ensures.ok readings stands,
      Appends-trans (g.N.Sink.written c.args.notes.now) (g.N.Sink.written c.write_passed.new.notes) (g.N.Sink.written c.write_others.new.notes) _ _ passed
          (Appends-trans (g.N.Sink.written c.write_passed.new.notes) (g.N.Sink.written c.write_lines.new.notes) (g.N.Sink.written c.write_others.new.notes) _ _ (e.ok readings stands) told),
      e.totals readings stands,
    )

pub returns-in-Err-write_others-clause-wrote : goal.returns-in-Err-write_others-clause-wrote
returns-in-Err-write_others-clause-wrote g c = λ readings others stands stand.
    let e = rw c.sectors_of.ensures at c.in-Ok-write_lines.ensures in
    let passed = rw c.deref.ensures.0 at c.in-Ok-write_passed.ensures.ok in
    let told = rw (stand.told, stand.untold) at c.in-Err-write_others.ensures.err in (
      c.in-Ok.ensures.ok readings stands,
      AppendsPart-second (g.N.Sink.written c.args.notes.now) (g.N.Sink.written c.write_passed.new.notes) (g.N.Sink.written c.write_others.new.notes) _ _ passed
          (AppendsPart-second (g.N.Sink.written c.write_passed.new.notes) (g.N.Sink.written c.write_lines.new.notes) (g.N.Sink.written c.write_others.new.notes) _ _ (e.ok readings stands) told),
    )

pub returns-in-Err-write_lines-clause-wrote : goal.returns-in-Err-write_lines-clause-wrote
returns-in-Err-write_lines-clause-wrote g c = λ readings others stands stand.
    let e = rw c.sectors_of.ensures at c.in-Err-write_lines.ensures in
    let passed = rw c.deref.ensures.0 at c.in-Ok-write_passed.ensures.ok in (
      c.in-Ok.ensures.ok readings stands,
      AppendsPart-second (g.N.Sink.written c.args.notes.now) (g.N.Sink.written c.write_passed.new.notes) (g.N.Sink.written c.write_lines.new.notes) _ _ passed
          (AppendsPart-first (g.N.Sink.written c.write_passed.new.notes) (g.N.Sink.written c.write_lines.new.notes) _ _ (e.err readings stands)),
    )

pub returns-in-Err-clause-blames : goal.returns-in-Err-clause-blames
returns-in-Err-clause-blames g c = CountsBy-image _ _ true c.in-Err.ensures.counts

pub returns-in-Err-write_passed-clause-blames : goal.returns-in-Err-write_passed-clause-blames
returns-in-Err-write_passed-clause-blames g c =
    CountsBy-then _ (CountsBy-image _ _ false c.in-Ok.ensures.counts) (CountsBy-notes _ _ true c.in-Err-write_passed.ensures.counts)

pub returns-in-Err-write_lines-clause-blames : goal.returns-in-Err-write_lines-clause-blames
returns-in-Err-write_lines-clause-blames g c =
    CountsBy-then _ (CountsBy-then _ (CountsBy-image _ _ false c.in-Ok.ensures.counts) (CountsBy-notes _ _ false c.in-Ok-write_passed.ensures.counts))
    (CountsBy-notes _ _ true c.in-Err-write_lines.ensures.counts)

pub returns-in-Ok-write_others-clause-blames : goal.returns-in-Ok-write_others-clause-blames
returns-in-Ok-write_others-clause-blames g c =
    CountsBy-then _ (CountsBy-then _ (CountsBy-then _ (CountsBy-image _ _ false c.in-Ok.ensures.counts) (CountsBy-notes _ _ false c.in-Ok-write_passed.ensures.counts))
    (CountsBy-notes _ _ false c.in-Ok-write_lines.ensures.counts)) (CountsBy-notes _ _ false c.in-Ok-write_others.ensures.counts)

pub returns-in-Err-write_others-clause-blames : goal.returns-in-Err-write_others-clause-blames
returns-in-Err-write_others-clause-blames g c =
    CountsBy-then _ (CountsBy-then _ (CountsBy-then _ (CountsBy-image _ _ false c.in-Ok.ensures.counts) (CountsBy-notes _ _ false c.in-Ok-write_passed.ensures.counts))
    (CountsBy-notes _ _ false c.in-Ok-write_lines.ensures.counts)) (CountsBy-notes _ _ true c.in-Err-write_others.ensures.counts)

pub returns-in-Ok-write_others-clause-second : goal.returns-in-Ok-write_others-clause-second
returns-in-Ok-write_others-clause-second g c = λ readings others stands stand sound. absurd (true≢false (sym sound))
