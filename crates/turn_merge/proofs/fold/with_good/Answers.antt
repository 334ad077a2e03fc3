use Rattle.turn_merge.proofs.Folding.{good_more, contradictory_more, contradictory_still, same_bytes, other_bytes}
use Rattle.turn_merge.proofs.fold.with_good.Goals as goal

pub returns-then-eq-clause-stands : goal.returns-then-eq-clause-stands
returns-then-eq-clause-stands c good bad sector h =
    good_more good bad sector c.in-Good.good c.in-Good.bad c.in-Good.first c.args.place c.args.held.now c.args.bytes.now
    (rw c.in-Good.is at h) (same_bytes _ _ _ c.eq.ensures c.if-eq.true)

pub returns-else-eq-clause-stands : goal.returns-else-eq-clause-stands
returns-else-eq-clause-stands c good bad sector h =
    contradictory_more good bad sector c.in-Good.good c.in-Good.bad c.in-Good.first c.args.place c.args.held.now c.args.bytes.now
    (rw c.in-Good.is at h) (other_bytes _ _ _ c.eq.ensures c.if-eq.false)

pub returns-in-Contradictory-clause-stands : goal.returns-in-Contradictory-clause-stands
returns-in-Contradictory-clause-stands c good bad sector h =
    contradictory_still good bad sector _ _ _ _ c.args.place _ _ (rw c.in-Contradictory.is at h)
