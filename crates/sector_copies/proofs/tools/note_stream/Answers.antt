use Rattle.sector_copies.proofs.AsControllers.{noted_both}
use Rattle.sector_copies.proofs.tools.note_stream.Goals as goal

pub returns-clause-noted : goal.returns-clause-noted
returns-clause-noted c =
    noted_both c.args.format c.args.track c.args.flux.now.times c.args.flux.now.indexes c.args.capture c.args.tools.now.notes c.note_by_clock.new.tools.notes c.note_by_clock-2.new.tools.notes
    c.note_by_clock.ensures.same.sector c.note_by_clock.ensures.noted c.note_by_clock-2.ensures.noted
