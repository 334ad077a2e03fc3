use Rattle.std.proofs.Common.{arith}
use Rattle.dump_numbers.proofs.finding.push_rate.Goals as goal

pub push_disks-requires-clause-one : goal.push_disks-requires-clause-one
push_disks-requires-clause-one c = rw c.deref.ensures.value (let many = c.requires.sets.one in omega (arith, many))

pub push_disks-requires-clause-two : goal.push_disks-requires-clause-two
push_disks-requires-clause-two c = rw c.deref-2.ensures.value (let many = c.requires.sets.two in omega (arith, many))

pub returns-clause-told : goal.returns-clause-told
returns-clause-told c = rw c.deref-2.ensures.value at rw c.deref.ensures.value at c.push_disks.ensures.told
