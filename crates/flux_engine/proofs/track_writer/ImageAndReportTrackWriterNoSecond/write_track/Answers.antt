use Rattle.std.proofs.Common.{Result, Ok, Err, sym, true≢false}
use Rattle.sector_report.specs.declared.totals.Totals.{Totals}
use Rattle.flux_engine.specs.SecondSinks.{WritesSecond, no_second}
use Rattle.flux_engine.specs.Tracks.{TrackPart, part_by, track_notes}
use Rattle.flux_engine.specs.declared.track_part.PartFault.{PartFault}
use Rattle.flux_engine.proofs.track_writer.ImageAndReportTrackWriterNoSecond.write_track.Goals as goal

-- where there are no second sinks nothing is said of them
none-written : (part : TrackPart) (answer : Result Totals PartFault) → WritesSecond part no_second no_second answer
none-written part (Ok totals) = λ sound. absurd (true≢false (sym sound))
none-written part (Err fault) = tt

pub returns-clause-second : goal.returns-clause-second
returns-clause-second g c = λ readings others stands stand. none-written (part_by c.args.self.now.naming c.args.format c.args.track (track_notes readings c.args.gathered.now.passed.items others)) c.write_part.result
