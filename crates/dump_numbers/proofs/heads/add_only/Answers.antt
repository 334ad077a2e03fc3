use Rattle.dump_numbers.proofs.Others.{only_all, only_kept}
use Rattle.dump_numbers.proofs.heads.add_only.Goals as goal

pub returns-then-not-has_any-clause-has : goal.returns-then-not-has_any-clause-has
returns-then-not-has_any-clause-has c =
    only_all c.args.own.now c.args.other.now c.args.size c.args.only.now c.add_all.new.to (c.has_any.ensures.no c.if-not-has_any.true) c.add_all.ensures.has

pub returns-else-not-has_any-clause-has : goal.returns-else-not-has_any-clause-has
returns-else-not-has_any-clause-has c = only_kept c.args.own.now c.args.other.now c.args.size c.args.only.now (c.has_any.ensures.yes c.if-not-has_any.false)
