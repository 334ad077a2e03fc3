use Rattle.std.proofs.Common.{length, arith}
use Rattle.flux_trial.proofs.Giving.{at-end, gave}
use Rattle.flux_trial.specs.inside.Giving.{left_of}
use Rattle.flux_trial.proofs.source.TrialSourceSource.read.Goals as goal

pub returns-clause-bytes : goal.returns-clause-bytes
returns-clause-bytes c =
    let e = c.give.ensures in
    let r = c.refill.new.self in
    let n = c.give.new.self in (
      gave (left_of c.args.self.now) r.at_hand r.later c.give.new.buffer n.at_hand n.later c.give.result c.refill.ensures.left e.front e.rest e.later,
      (λ none asked. at-end r.at_hand r.later n.at_hand n.later c.give.result (length c.args.buffer.now) e.count c.refill.ensures.some e.rest e.later none (omega (arith, asked, e.len))),
    )
