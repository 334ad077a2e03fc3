use Rattle.std.proofs.Common.{◌∙◌, ◌+◌, ◌-◌, ap, arith, get_or, take}
use Rattle.index_turns.proofs.Runs.{times_after-front, times_after-last}
use Rattle.index_turns.proofs.track_flux.append_front.Goals as goal

pub returns-clause-items : goal.returns-clause-items
returns-clause-items c =
    let len = c.len.result + c.args.count in
    c.truncate.ensures.items ∙ ap (take len) c.append_run-front.ensures.items
    ∙ times_after-front c.args.times.items c.args.start c.args.intervals.now c.args.row c.args.count len c.requires.few
    (omega (arith, c.len.ensures, c.args.times.ok.0))

pub returns-clause-end : goal.returns-clause-end
returns-clause-end c =
    let len = c.len.result + c.args.count in
    let items = c.truncate.ensures.items ∙ ap (take len) c.append_run-front.ensures.items
    ∙ times_after-front c.args.times.items c.args.start c.args.intervals.now c.args.row c.args.count len c.requires.few
    (omega (arith, c.len.ensures, c.args.times.ok.0)) in
    c.index-end.ensures ∙ ap (λ times. get_or times (len - 1) c.index-end.result.now) items
    ∙ times_after-last c.args.times.items c.args.start c.args.intervals.now c.args.count (len - 1) c.index-end.result.now c.requires.some
    (omega (arith, c.requires.few, c.requires.row)) (omega (arith, c.len.ensures, c.args.times.ok.0, c.requires.some))
