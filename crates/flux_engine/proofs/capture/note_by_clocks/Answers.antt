use Rattle.flux_engine.proofs.Noting.{noted_alone, noted_both}
use Rattle.flux_engine.proofs.capture.note_by_clocks.Goals as goal

pub returns-in-FollowingAlone-clause-noted : goal.returns-in-FollowingAlone-clause-noted
returns-in-FollowingAlone-clause-noted c =
    rw c.in-FollowingAlone.is
    (noted_alone c.args.rule c.args.format c.args.track c.args.flux.now.times c.args.flux.now.indexes c.args.capture c.args.tools.now.gathered.book c.note_readings.new.tools.gathered.book
    c.args.tools.now.gathered.others c.note_readings.new.tools.gathered.others c.note_readings.ensures.noted)

pub returns-in-Both-clause-noted : goal.returns-in-Both-clause-noted
returns-in-Both-clause-noted c =
    rw c.in-Both.is
    (noted_both c.args.rule c.args.format c.args.track c.args.flux.now.times c.args.flux.now.indexes c.args.capture c.args.tools.now.gathered.book c.note_readings.new.tools.gathered.book c.note_readings-in-Both.new.tools.gathered.book
    c.args.tools.now.gathered.others c.note_readings.new.tools.gathered.others c.note_readings-in-Both.new.tools.gathered.others
    c.note_readings.ensures.noted c.note_readings-in-Both.ensures.noted)
