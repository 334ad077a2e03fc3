use Rattle.std.proofs.Common.{ap}
use Rattle.flux_engine.proofs.TakenNames.{names_passed, names_read}
use Rattle.flux_engine.proofs.names.note_names.Goals as goal

pub returns-in-Read-clause-noted : goal.returns-in-Read-clause-noted
returns-in-Read-clause-noted c =
    rw c.in-Read.is
    (names_read c.headers_have_names.ensures c.args.format c.args.near c.args.capture c.args.clocks c.args.flux.now c.args.tools.now.gathered.passed.items
    c.names_by_clocks.new.tools.gathered.passed.items c.args.tools.now.gathered.others c.names_by_clocks.new.tools.gathered.others
    c.names_by_clocks.ensures.noted (ap (λ v. v.items) c.names_by_clocks.ensures.passed))

pub returns-in-PassedOver-clause-noted : goal.returns-in-PassedOver-clause-noted
returns-in-PassedOver-clause-noted c =
    rw c.in-PassedOver.is
    (names_passed c.headers_have_names.ensures c.args.format c.args.near c.args.capture c.args.clocks c.args.flux.now c.args.tools.now.gathered.passed.items
    c.in-PassedOver.why c.note_passed.new.passed.items c.args.tools.now.gathered.others c.note_passed.ensures.noted)
