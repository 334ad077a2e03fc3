use Rattle.std.proofs.Common.{◌≤◌, false, refl, sym, subst}
use Rattle.flux_engine.specs.declared.plan.Plan.{Plan}
use Rattle.flux_cli.proofs.Blaming.{no-shelf, run-of-source}
use Rattle.flux_cli.proofs.Headlines.{way_asked}
use Rattle.flux_cli.specs.Blamed.{nothing}
use Rattle.flux_cli.proofs.task.StreamsAskedTask.run.Goals as goal

pub decode_by_plan-requires-clause-some : goal.decode_by_plan-requires-clause-some
decode_by_plan-requires-clause-some g c = subst (λ (p : Plan). 1 ≤ p.captures) (sym c.plan_of-plan.ensures) (way_asked c.args.self.now.way c.requires).some

pub decode_by_plan-requires-clause-few : goal.decode_by_plan-requires-clause-few
decode_by_plan-requires-clause-few g c = subst (λ (p : Plan). p.captures ≤ 16) (sym c.plan_of-plan.ensures) (way_asked c.args.self.now.way c.requires).most

pub returns-clause-did : goal.returns-clause-did
returns-clause-did g c = (rw c.plan_of-plan.ensures at c.decode_by_plan.ensures.does, refl, refl)

pub returns-clause-counts : goal.returns-clause-counts
returns-clause-counts g c = run-of-source false nothing c.decode_by_plan.result (no-shelf c.decode_by_plan.ensures.does (λ never. never)) c.decode_by_plan.ensures.blames
