use Rattle.std.proofs.Common.{[], refl}
use Rattle.flux_engine.specs.Recordings.{start_of}
use Rattle.flux_engine.specs.declared.plan.Clocks.TheVariants.{FollowingAlone}
use Rattle.flux_engine.specs.declared.plan.Rule.TheVariants.{Controller}
use Rattle.flux_engine.proofs.Noting.{noted_alone}
use Rattle.flux_engine.proofs.PassedStreams.{noted_passed}
use Rattle.flux_engine.proofs.CellSlots.{in-slot}
use Rattle.flux_engine.proofs.shared_stream.note_shared.Goals as goal

pub returns-in-Read-clause-noted : goal.returns-in-Read-clause-noted
returns-in-Read-clause-noted c =
    rw c.in-Read.is
    (noted_alone Controller c.args.format c.args.track c.args.flux.now.times c.args.flux.now.indexes 0 c.args.gathered.now.book c.note_in_cells.new.gathered.book
    c.args.gathered.now.others c.note_in_cells.new.gathered.others c.note_in_cells.ensures.noted)

pub returns-in-PassedOver-clause-noted : goal.returns-in-PassedOver-clause-noted
returns-in-PassedOver-clause-noted c =
    let none = noted_passed Controller FollowingAlone c.args.format c.args.track c.args.flux.now 0 c.tracks_have_only_own.ensures.alone c.headers_have_names.ensures c.requires.track
    c.in-PassedOver.field-0 c.args.gathered.now.book c.args.gathered.now.book [] _ c.args.gathered.now.others refl refl in
    rw c.in-PassedOver.is
    (record {
      readings = none.readings;
      are = none.are;
      noted = none.noted;
      shape = none.shape;
      few = none.few;
      others = none.others;
      others_are = none.others_are;
      others_noted = none.others_noted;
      few_others = none.few_others;
    })

pub note_in_cells-requires-clause-cells : goal.note_in_cells-requires-clause-cells
note_in_cells-requires-clause-cells c =
    (in-slot c.recover-slot.new.self.slots.items c.recover-slot.result (start_of c.args.format c.args.track c.args.flux.now.indexes) c.args.flux.now.times c.cells.result.now c.recover-slot.ensures.slot c.cells.ensures).cells_are

pub note_in_cells-requires-clause-are : goal.note_in_cells-requires-clause-are
note_in_cells-requires-clause-are c =
    (in-slot c.recover-slot.new.self.slots.items c.recover-slot.result (start_of c.args.format c.args.track c.args.flux.now.indexes) c.args.flux.now.times c.cells.result.now c.recover-slot.ensures.slot c.cells.ensures).are
