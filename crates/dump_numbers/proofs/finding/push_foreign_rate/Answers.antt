use Rattle.std.proofs.Common.{arith}
use Rattle.told_disks.specs.declared.heads.NamedHeads.TheVariants.{Changed, First}
use Rattle.dump_numbers.proofs.finding.push_foreign_rate.Goals as goal

pub push_foreign-requires-clause-few_first : goal.push_foreign-requires-clause-few_first
push_foreign-requires-clause-few_first c =
    let few = c.requires.sets First in
    let one = few.one in
    let two = few.two in (rw c.deref.ensures.value (omega (arith, one)), rw c.deref-2.ensures.value (omega (arith, two)))

pub push_foreign-requires-clause-few_changed : goal.push_foreign-requires-clause-few_changed
push_foreign-requires-clause-few_changed c =
    let few = c.requires.sets Changed in
    let one = few.one in
    let two = few.two in (rw c.deref-3.ensures.value (omega (arith, one)), rw c.deref-4.ensures.value (omega (arith, two)))
