use Rattle.flux_engine.proofs.PlanOutcomes.{one_captures, one_planned}
use Rattle.flux_engine.proofs.PlanSectors.{contradictions_in_plans, first_lead, first_stays, good_in_plans, good_readings_stand}
use Rattle.flux_engine.proofs.StrictSectors.{strict_good_stays}
use Rattle.flux_engine.proofs.laws.plans_are_right.Goals as goal

pub returns-clause-one : goal.returns-clause-one
returns-clause-one c = one_planned c.rules_are_read.ensures

pub returns-clause-readings : goal.returns-clause-readings
returns-clause-readings c = one_captures c.rules_are_read.ensures

pub returns-clause-stand : goal.returns-clause-stand
returns-clause-stand c = good_readings_stand c.rules_are_read.ensures

pub returns-clause-good : goal.returns-clause-good
returns-clause-good c = good_in_plans c.rules_are_read.ensures

pub returns-clause-contradictory : goal.returns-clause-contradictory
returns-clause-contradictory c = contradictions_in_plans c.rules_are_read.ensures

pub returns-clause-lead : goal.returns-clause-lead
returns-clause-lead c = first_lead c.rules_are_read.ensures

pub returns-clause-stays : goal.returns-clause-stays
returns-clause-stays c = first_stays c.rules_are_read.ensures

pub returns-clause-strict : goal.returns-clause-strict
returns-clause-strict c = strict_good_stays c.tracks_are_read.ensures c.rules_are_read.ensures
