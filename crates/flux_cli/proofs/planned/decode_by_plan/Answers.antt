use Rattle.std.proofs.Common.{ap}
use Rattle.flux_engine.specs.Room.{RoomState}
use Rattle.flux_cli.specs.PlanWork.{planned_work}
use Rattle.flux_cli.proofs.Runs.{out_of_memory}
use Rattle.flux_cli.proofs.planned.decode_by_plan.Goals as goal

pub returns-in-Ok-clause-does : goal.returns-in-Ok-clause-does
returns-in-Ok-clause-does g c =
    rw (ap (λ (room : RoomState). room.format) c.in-Ok.ensures) at c.decode.ensures.does

pub returns-in-Err-clause-does : goal.returns-in-Err-clause-does
returns-in-Err-clause-does g c = out_of_memory (planned_work c.args.plan c.args.output c.args.format) tt _
