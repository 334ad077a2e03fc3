use Rattle.library_calls.specs.Sets.{set_part_of, set_streams}
use Rattle.flux_engine.specs.Plans.{set_plan}
use Rattle.library_calls.proofs.set_laws.sets_are_one.Goals as goal

pub returns : goal.returns
returns c format count x a b p q = c.plans_are_right.ensures.one (set_plan count) set_part_of format (set_streams count x) a b p q
