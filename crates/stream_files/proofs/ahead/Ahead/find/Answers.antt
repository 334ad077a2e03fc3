use Rattle.std.proofs.Common.{true, false, Ok, subst, sym}
use Rattle.stream_files.specs.inside.Ahead.{Finds}
use Rattle.stream_files.proofs.Finding.{found-first, found-next, found-none}
use Rattle.stream_files.proofs.ahead.Ahead.find.Goals as goal

pub returns-then-is_first-clause-found : goal.returns-then-is_first-clause-found
returns-then-is_first-clause-found g c =
    let took = c.in-Ok.ensures.took in
    rw c.if-is_first.true (found-first _ _ _ _ took.0 took.1 took.2 took.3)

pub returns-in-Some-clause-found : goal.returns-in-Some-clause-found
returns-in-Some-clause-found g c =
    let took = c.in-Ok.ensures.took in
    rw (c.if-is_first.false, c.pass.ensures)
    (found-next _ _ _ _ took.0 took.1 took.2 took.3 c.padding_law.ensures c.in-Some.count (rw c.bytes.ensures at c.in-Some.ensures.settled) (rw c.bytes.ensures at c.in-Some.ensures.within))

pub returns-in-None-clause-found : goal.returns-in-None-clause-found
returns-in-None-clause-found g c =
    let took = c.in-Ok.ensures.took in
    rw c.if-is_first.false
    (found-none _ _ _ _ took.0 took.1 took.2 took.3 (rw c.bytes.ensures at c.in-None.ensures.at_end) (rw c.bytes.ensures at c.in-None.ensures.short))
