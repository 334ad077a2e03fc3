use Rattle.std.proofs.Common.{ap, refl}
use Rattle.flux_engine.proofs.PassedStreams.{noted_passed, noted_read}
use Rattle.flux_engine.proofs.track_captures.note_next.Goals as goal

pub returns-in-Read-clause-noted : goal.returns-in-Read-clause-noted
returns-in-Read-clause-noted c =
    rw c.in-Read.is
    (noted_read c.args.rule c.args.clocks c.args.format c.args.track c.args.flux.now c.args.capture c.args.tools.now.gathered.book c.note_by_clocks.new.tools.gathered.book
    c.args.tools.now.gathered.passed.items c.note_by_clocks.new.tools.gathered.passed.items c.args.tools.now.gathered.others c.note_by_clocks.new.tools.gathered.others
    c.note_by_clocks.ensures.noted (ap (λ v. v.items) c.note_by_clocks.ensures.kept))

pub returns-in-PassedOver-clause-noted : goal.returns-in-PassedOver-clause-noted
returns-in-PassedOver-clause-noted c =
    rw c.in-PassedOver.is
    (noted_passed c.args.rule c.args.clocks c.args.format c.args.track c.args.flux.now c.args.capture c.tracks_have_only_own.ensures.alone c.headers_have_names.ensures c.requires.track c.in-PassedOver.why
    c.args.tools.now.gathered.book c.args.tools.now.gathered.book c.args.tools.now.gathered.passed.items c.push.new.self.items c.args.tools.now.gathered.others refl c.push.ensures.items)
