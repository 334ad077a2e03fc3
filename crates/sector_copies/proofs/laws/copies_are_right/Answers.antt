use Rattle.std.specs.Prelude.{◌<◌, ℕ, List, length}
use Rattle.std.proofs.Common.{ap, arith, subst, sym, ◌∙◌}
use Rattle.turn_merge.specs.Readings.{NotedReading}
use Rattle.turn_merge.specs.declared.verdict.Place.{Place}
use Rattle.flux_engine.specs.PlanLaws.{IsNamedIn, cells_in}
use Rattle.flux_engine.specs.Plans.{joined}
use Rattle.flux_engine.specs.Recordings.{track_at}
use Rattle.flux_engine.specs.declared.plan.Rule.TheVariants.{Controller}
use Rattle.flux_engine.specs.lemmas.Each.{each-at, each-of}
use Rattle.dump_reading.specs.Reports.{dump_plan}
use Rattle.sector_copies.specs.Laws.{copies_in}
use Rattle.sector_copies.proofs.Contained.{IsOf, by_clock, in_cells, in_copies, in_joined}
use Rattle.sector_copies.proofs.Named.{IsCopy, IsNamed, copies_named}
use Rattle.sector_copies.proofs.Somewhere.{Has}
use Rattle.sector_copies.proofs.laws.copies_are_right.Goals as goal

pub returns-clause-named : goal.returns-clause-named
returns-clause-named c count format streams n captures are sector copy has =
    let Named : Place → ℕ → List ℕ → Type 0 = λ place s bytes. IsNamedIn (dump_plan count) format streams n place s bytes in
    each-at (IsCopy Named sector) (copies_in captures sector) copy
    (copies_named Named sector (joined captures)
    (each-of (IsNamed Named sector) (joined captures)
    (λ reading within bytes held. c.plans_are_right.ensures.stand (dump_plan count) format streams n captures are.many are.each reading bytes within held)))
    has

pub returns-clause-contents : goal.returns-clause-contents
returns-clause-contents c count format streams n captures are sector few q clock place bytes low stands =
    let within = are.many in
    let here : q < length captures = omega (arith, low, within) in
    let noted = are.each q here in
    let one = noted.each clock tt in
    let found = (c.rules_are_read.ensures.good Controller format (track_at format n) (cells_in format streams n q clock) one.found one.all place sector bytes).1 stands in
    in_copies sector bytes (joined captures) few
    (in_joined sector bytes captures q here
    (subst (Has (IsOf sector bytes)) (sym noted.are) (by_clock sector bytes noted.by_clock clock
    (subst (Has (IsOf sector bytes)) (sym one.are) (in_cells sector bytes q clock (streams n q).times (streams n q).indexes (cells_in format streams n q clock) one.found place found)))))

pub returns-clause-one : goal.returns-clause-one
returns-clause-one c count format streams n a b first second sector =
    ap (λ (captures : List (List NotedReading)). copies_in captures sector)
    (c.plans_are_right.ensures.readings (dump_plan count) format streams n a b first.each second.each (first.many ∙ sym second.many))
