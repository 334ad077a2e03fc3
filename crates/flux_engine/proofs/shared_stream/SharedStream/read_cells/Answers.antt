use Rattle.std.proofs.Common.{◌≡◌, Bool, List, ap, refl, subst, sym, ◌∙◌}
use Rattle.std.specs.Prelude.{None}
use Rattle.index_turns.specs.Track.{TrackState}
use Rattle.flux_engine.specs.Gathering.{AreCellsOf}
use Rattle.flux_engine.specs.LoopProgress.{seen_next}
use Rattle.flux_engine.specs.Plans.{Seen}
use Rattle.flux_engine.specs.Recordings.{cells_of, start_of}
use Rattle.flux_engine.specs.declared.track_streams.NextStream.{NextStream}
use Rattle.flux_engine.proofs.CellSlots.{in-slot}
use Rattle.flux_engine.proofs.shared_stream.SharedStream.read_cells.Goals as goal

pub read-requires-clause-cells : goal.read-requires-clause-cells
read-requires-clause-cells g c =
    let flux = c.flux.result.now in
    let cells = c.cells.result.now in
    let kept = in-slot c.recover-slot.new.self.slots.items c.recover-slot.result (start_of c.args.format c.args.track flux.indexes) flux.times cells c.recover-slot.ensures.slot c.cells.ensures in
    subst (λ (f : TrackState). AreCellsOf f.times cells.cells) (c.flux.ensures ∙ sym c.flux-in-Read.ensures) kept.are

pub returns-in-Read-clause-read : goal.returns-in-Read-clause-read
returns-in-Read-clause-read g c =
    let flux = c.flux.result.now in
    let cells = c.cells.result.now in
    let kept = in-slot c.recover-slot.new.self.slots.items c.recover-slot.result (start_of c.args.format c.args.track flux.indexes) flux.times cells c.recover-slot.ensures.slot c.cells.ensures in
    let same : c.flux-in-Read.result.now ≡ flux = c.flux-in-Read.ensures ∙ sym c.flux.ensures in
    let read = subst (λ (f : TrackState). g.C.CellReader.reads c.args.reader.now f.times f.indexes cells.cells c.read.result) same c.read.ensures in
    let of_cells = subst (λ (all : List Bool). g.C.CellReader.reads c.args.reader.now flux.times flux.indexes all c.read.result) kept.cells_are read in
    let is : seen_next c.self.inside.next c.self.inside.stream.flux ≡ seen_next c.self.inside.next flux = ap (λ (f : TrackState). seen_next c.self.inside.next f) (sym c.flux.ensures) in
    subst
    (λ (here : Seen). (here.passed ≡ None)
    × g.C.CellReader.reads c.args.reader.now here.times here.indexes (cells_of c.args.format c.args.track here.times here.indexes) c.read.result)
    (ap (λ (next : NextStream). seen_next next flux) (sym c.in-Read.is) ∙ sym is ∙ c.self.view_is)
    (refl, of_cells)
