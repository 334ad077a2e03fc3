use Rattle.law_captured_plans.proofs.NoOthers.{captured_plans_have_no_others, erased_plans_have_no_others}
use Rattle.law_captured_plans.proofs.laws.captured_plans_have_no_others.Goals as goal

pub returns-clause-whole : goal.returns-clause-whole
returns-clause-whole c = captured_plans_have_no_others c.captures_have_no_others.ensures c.growth_law.ensures.streams c.joined_law.ensures

pub returns-clause-erased : goal.returns-clause-erased
returns-clause-erased c = erased_plans_have_no_others c.captures_have_no_others.ensures c.growth_law.ensures.streams c.joined_law.ensures
