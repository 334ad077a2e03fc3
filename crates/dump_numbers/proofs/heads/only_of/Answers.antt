use Rattle.dump_numbers.proofs.Others.{only_four}
use Rattle.dump_numbers.proofs.heads.only_of.Goals as goal

pub returns-clause-has : goal.returns-clause-has
returns-clause-has c =
    only_four c.args.own.now c.args.other.now c.empty-only.result c.add_only.new.only c.add_only-2.new.only c.add_only-3.new.only c.add_only-4.new.only c.empty-only.ensures.has
    c.add_only.ensures.has c.add_only-2.ensures.has c.add_only-3.ensures.has c.add_only-4.ensures.has
