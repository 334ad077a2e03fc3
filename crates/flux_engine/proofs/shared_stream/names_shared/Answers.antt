use Rattle.flux_engine.specs.Recordings.{start_of}
use Rattle.flux_engine.specs.declared.plan.Clocks.TheVariants.{FollowingAlone}
use Rattle.flux_engine.proofs.TakenNames.{names_alone, no_names}
use Rattle.flux_engine.proofs.CellSlots.{in-slot}
use Rattle.flux_engine.proofs.shared_stream.names_shared.Goals as goal

pub returns-in-Read-clause-noted : goal.returns-in-Read-clause-noted
returns-in-Read-clause-noted c =
    rw c.in-Read.is
    (names_alone c.args.format c.args.near c.args.flux.now.times c.args.flux.now.indexes 0 c.args.others.now c.names_in_cells.new.others c.names_in_cells.ensures)

pub returns-in-PassedOver-clause-noted : goal.returns-in-PassedOver-clause-noted
returns-in-PassedOver-clause-noted c =
    rw c.in-PassedOver.is (no_names c.headers_have_names.ensures c.args.format c.args.near 0 FollowingAlone c.args.others.now)

pub names_in_cells-requires-clause-cells : goal.names_in_cells-requires-clause-cells
names_in_cells-requires-clause-cells c =
    (in-slot c.recover-slot.new.self.slots.items c.recover-slot.result (start_of c.args.format c.args.near c.args.flux.now.indexes) c.args.flux.now.times c.cells.result.now c.recover-slot.ensures.slot c.cells.ensures).cells_are

pub names_in_cells-requires-clause-are : goal.names_in_cells-requires-clause-are
names_in_cells-requires-clause-are c =
    (in-slot c.recover-slot.new.self.slots.items c.recover-slot.result (start_of c.args.format c.args.near c.args.flux.now.indexes) c.args.flux.now.times c.cells.result.now c.recover-slot.ensures.slot c.cells.ensures).are
