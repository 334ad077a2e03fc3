use Rattle.flux_engine.proofs.TakenNames.{names_alone, names_both}
use Rattle.flux_engine.proofs.names.names_by_clocks.Goals as goal

pub returns-in-FollowingAlone-clause-noted : goal.returns-in-FollowingAlone-clause-noted
returns-in-FollowingAlone-clause-noted c =
    rw c.in-FollowingAlone.is
    (names_alone c.args.format c.args.near c.args.flux.now.times c.args.flux.now.indexes c.args.capture
    c.args.tools.now.gathered.others c.names_by_clock.new.tools.gathered.others c.names_by_clock.ensures.noted)

pub returns-in-Both-clause-noted : goal.returns-in-Both-clause-noted
returns-in-Both-clause-noted c =
    rw c.in-Both.is
    (names_both c.args.format c.args.near c.args.flux.now.times c.args.flux.now.indexes c.args.capture
    c.args.tools.now.gathered.others c.names_by_clock.new.tools.gathered.others c.names_by_clock-in-Both.new.tools.gathered.others
    c.names_by_clock.ensures.noted c.names_by_clock-in-Both.ensures.noted)
