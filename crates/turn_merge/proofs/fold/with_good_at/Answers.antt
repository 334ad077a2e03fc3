use Rattle.std.proofs.Common.{◌≡◌, ◌*◌, ◌∙◌, ap, length, arith}
use Rattle.turn_merge.proofs.Parts.{part-put_same, part-put_other, cut_is, length-part}
use Rattle.turn_merge.proofs.fold.with_good_at.Goals as goal

pub returns-clause-stands : goal.returns-clause-stands
returns-clause-stands c good bad sector h =
    let cut = cut_is c.args.held.now (length c.args.bytes.now) (c.args.index * length c.args.bytes.now) in
    let whole : length c.with_good.new.held ≡ length c.args.bytes.now =
    c.with_good.auto.held ∙ ap length cut ∙ length-part c.args.held.now (length c.args.bytes.now) c.args.index c.requires.within in
    rw (part-put_same c.args.held.now c.with_good.new.held (length c.args.bytes.now) _ c.args.index c.requires.within whole)
    (c.with_good.ensures.stands good bad sector (rw cut h))

pub returns-clause-others : goal.returns-clause-others
returns-clause-others c k other =
    let cut = cut_is c.args.held.now (length c.args.bytes.now) (c.args.index * length c.args.bytes.now) in
    let whole : length c.with_good.new.held ≡ length c.args.bytes.now =
    c.with_good.auto.held ∙ ap length cut ∙ length-part c.args.held.now (length c.args.bytes.now) c.args.index c.requires.within in
    part-put_other c.args.held.now c.with_good.new.held (length c.args.bytes.now) _ c.args.index k c.requires.within whole (omega arith) other
