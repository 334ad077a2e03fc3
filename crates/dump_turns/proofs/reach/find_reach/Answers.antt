use Rattle.std.proofs.Common.{◌<◌, arith}
use Rattle.dump_turns.proofs.Reaching.{reach-empty, reach-found, reach-gone, reach-none, reach-there}
use Rattle.dump_turns.proofs.reach.find_reach.Goals as goal
use Rattle.dump_turns.proofs.reach.find_reach.Goals.{then-holds, else-holds}

pub loop-number-init : goal.loop-number-init
loop-number-init g c = reach-none (g.H.Shelf.files c.args.shelf.now) c.args.dump.now

pub loop-number-preserved : goal.loop-number-preserved
loop-number-preserved g c = elim c.if-holds.branch [
  | then-holds w ↦
      rw w.reach-is (rw w.with-reach.ensures (reach-there (g.H.Shelf.files c.args.shelf.now) c.args.dump.now c.loop-number.number c.loop-number-test.true c.loop-number.reach
      c.loop-number.invariant c.holds.result c.holds.ensures w.if-holds.true))
  | else-holds w ↦
      rw w.reach-is (reach-gone (g.H.Shelf.files c.args.shelf.now) c.args.dump.now c.loop-number.number c.loop-number-test.true c.loop-number.reach c.loop-number.invariant c.holds.result
      c.holds.ensures w.if-holds.false)
]

pub returns-then-reach-eq0-clause-told : goal.returns-then-reach-eq0-clause-told
returns-then-reach-eq0-clause-told g c = λ files told.
    reach-empty files c.args.dump.now c.loop-number.number (omega arith) c.loop-number.reach (c.loop-number.invariant.in_files files told) c.if-reach-eq0.true

pub returns-else-reach-eq0-clause-told : goal.returns-else-reach-eq0-clause-told
returns-else-reach-eq0-clause-told g c = λ files told.
    let some : 0 < c.loop-number.reach.cylinders = omega (arith, c.if-reach-eq0.false) in
    reach-found files c.args.dump.now c.loop-number.number (omega arith) c.loop-number.reach (c.loop-number.invariant.in_files files told) some

pub returns-else-reach-eq0-clause-bound : goal.returns-else-reach-eq0-clause-bound
returns-else-reach-eq0-clause-bound g c =
    let some : 0 < c.loop-number.reach.cylinders = omega (arith, c.if-reach-eq0.false) in record {
      some_cylinder = some;
      some_head = c.loop-number.invariant.some_head some;
      cylinders = c.loop-number.invariant.few_cylinders;
      heads = c.loop-number.invariant.few_heads;
    }
