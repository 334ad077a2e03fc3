use Rattle.flux_engine.specs.Recordings.{track_at}
use Rattle.library_calls.proofs.EngineBlames.{capture_cause}
use Rattle.library_calls.proofs.OneClock.{reads_capture}
use Rattle.library_calls.proofs.capture.read_capture.Goals as goal

pub returns-clause-read : goal.returns-clause-read
returns-clause-read g c =
    reads_capture c.args.room.now.format (track_at c.args.room.now.format c.args.number) (g.S.Source.left c.args.source.now) (g.S.Source.left c.read_by_clocks.new.source)
    c.args.room.now.used c.args.room.now.held c.read_by_clocks.new.room.held c.args.room.now.book c.read_by_clocks.new.room.book
    c.args.room.now.others c.read_by_clocks.new.room.others c.args.capture c.read_by_clocks.result
    c.read_by_clocks.ensures.read

pub returns-clause-cause : goal.returns-clause-cause
returns-clause-cause g c = capture_cause c.read_by_clocks.result c.read_by_clocks.ensures.counts

pub returns-clause-later : goal.returns-clause-later
returns-clause-later g c = c.read_by_clocks.ensures.counts.later
