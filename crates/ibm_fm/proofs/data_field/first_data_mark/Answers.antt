use Rattle.std.proofs.Common.{arith}
use Rattle.ibm_fm.proofs.DataMarks.{none-before, none-there}
use Rattle.ibm_fm.proofs.data_field.first_data_mark.Goals as goal

pub returns-then-opens_data-clause-first : goal.returns-then-opens_data-clause-first
returns-then-opens_data-clause-first c =
    none-before c.args.frame.now c.args.from c.loop-place.start c.in-Some.place c.loop-place.invariant.none c.in-Some.ensures.3

pub loop-place-preserved : goal.loop-place-preserved
loop-place-preserved c =
    let found = c.in-Some.ensures in
    record {
      low = omega (arith, found.0, c.loop-place.invariant.low);
      high = omega (arith, found.1);
      none = none-there c.args.frame.now c.args.from c.in-Some.place
          (none-before c.args.frame.now c.args.from c.loop-place.start c.in-Some.place c.loop-place.invariant.none found.3)
          (λ stands. let yes = c.opens_data.ensures.1 stands in cc);
    }

pub returns-clause-first : goal.returns-clause-first
returns-clause-first c =
    none-before c.args.frame.now c.args.from c.loop-place.start c.args.end c.loop-place.invariant.none c.in_default.ensures
