use Rattle.flux_engine.specs.Plans.{set_plan}
use Rattle.library_calls.specs.Sets.{set_streams}
use Rattle.library_calls.proofs.set_laws.good_is_right_in_sets.Goals as goal

pub returns : goal.returns
returns c format count x n part is sector good bad first verdict_is =
    c.plans_are_right.ensures.good (set_plan count) format (set_streams count x) n is.captures is.many is.each sector good bad first verdict_is
