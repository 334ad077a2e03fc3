-- Laws of an object's counts over several calls, for proofs about callers.
use Rattle.std.proofs.Common.{◌≤◌, Bool, true, false, is_err, Result, Ok, Err, OnErr, arith, refl}
use Rattle.std.proofs.Common.{ap, ◌∙◌}
use Rattle.flux_base.specs.Counts.{FaultCounts, Counts}
use Rattle.flux_base.specs.Outside.{Rose, IsCounted, one_more}

-- an object that was not called
pub Counts-none : (counts : FaultCounts) → Counts false counts counts
Counts-none counts = record { later = omega arith; cause = tt; counted = refl }

-- the clauses of an object's own call
pub Counts-call : {T E : Type 0} {before after : FaultCounts} (answer : Result T E)
    → before.faults ≤ after.faults
    → OnErr answer (Rose before.faults after.faults)
    → IsCounted (is_err answer) before.failed after.failed → Counts (is_err answer) before after
Counts-call (Ok _) later cause counted = record { later = later; cause = tt; counted = counted }
Counts-call (Err _) later cause counted = record { later = later; cause = cause; counted = counted }

-- a call after one that did not fail
pub Counts-then : {old mid new : FaultCounts} (fails : Bool) → Counts false old mid
    → Counts fails mid new → Counts fails old new
Counts-then {old = old} {mid = mid} {new = new} true p q = record {
  later = omega (arith, p.later, q.later);
  cause = omega (arith, p.later, q.cause);
  counted = q.counted ∙ ap one_more p.counted;
}
Counts-then {old = old} {mid = mid} {new = new} false p q = record {
  later = omega (arith, p.later, q.later);
  cause = tt;
  counted = q.counted ∙ p.counted;
}
