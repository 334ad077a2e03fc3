use Rattle.std.proofs.Common.{refl, ◌∙◌}
use Rattle.track_shelf.specs.Files.{file_at}
use Rattle.track_shelf.specs.Names.{path_text}
use Rattle.sector_report.specs.declared.dump_lines.Passed.TheVariants.{Absent}
use Rattle.dump_reading.specs.DumpStreams.{passed_over}
use Rattle.dump_reading.specs.lemmas.DumpTracks.{in_file}
use Rattle.dump_reading.specs.Files.{shelf_at}
use Rattle.flux_engine.specs.LoopProgress.{seen_next}
use Rattle.flux_engine.specs.declared.track_streams.NextStream.TheVariants.{PassedOver as PassedNext, Read as ReadNext}
use Rattle.dump_turns.specs.declared.found.Found.TheVariants.{PassedOver, Read}
use Rattle.dump_turns.proofs.Openings.{finds-file, finds-lost, missing-is, passed-sized, whole-is, whole-sized}
use Rattle.dump_turns.proofs.files.find_file.Goals as goal

pub returns-in-Missing-clause-found : goal.returns-in-Missing-clause-found
returns-in-Missing-clause-found g c =
    let path = path_text c.args.dump.now c.args.track in
    finds-file c.args.dump.now c.args.track (shelf_at g.H.Source g.H.Shelf c.args.shelf.now) (shelf_at g.H.Source g.H.Shelf c.open_whole.new.shelf) c.requires.file (passed_over Absent) (PassedOver Absent) refl
    c.in-Missing.ensures.told c.in-Missing.ensures.counts (λ files known. missing-is (file_at files path) c.open_whole.new.buffer (c.in-Missing.ensures.is files known)) refl
    (λ files known. passed-sized (in_file (file_at files path)) Absent)

pub returns-in-Lost-clause-found : goal.returns-in-Lost-clause-found
returns-in-Lost-clause-found g c =
    finds-lost c.args.dump.now c.args.track (shelf_at g.H.Source g.H.Shelf c.args.shelf.now) (shelf_at g.H.Source g.H.Shelf c.open_whole.new.shelf) c.in-Lost.ensures.told
    c.in-Lost.ensures.counts

pub returns-in-Read-clause-found : goal.returns-in-Read-clause-found
returns-in-Read-clause-found g c =
    let path = path_text c.args.dump.now c.args.track in
    let buffer = c.open_whole.new.buffer in
    let count = c.in-Whole.count in
    let full = c.open_whole.ensures.len ∙ c.requires.buffer in
    let flux = c.read_held.new.stream.flux in
    finds-file c.args.dump.now c.args.track (shelf_at g.H.Source g.H.Shelf c.args.shelf.now) (shelf_at g.H.Source g.H.Shelf c.open_whole.new.shelf) c.requires.file (seen_next ReadNext flux)
    (Read c.measure.result) refl c.in-Whole.ensures.told c.in-Whole.ensures.counts
    (λ files known. whole-is buffer count full (file_at files path) ReadNext flux (c.in-Whole.ensures.is files known) c.in-Read.ensures.seen)
    (refl, rw c.flux.ensures at c.measure.ensures.are, c.measure.ensures.bounded)
    (λ files known. whole-sized buffer count full (file_at files path) c.measure.result c.measure.ensures.bytes (c.in-Whole.ensures.is files known))

pub returns-in-PassedOver-clause-found : goal.returns-in-PassedOver-clause-found
returns-in-PassedOver-clause-found g c =
    let path = path_text c.args.dump.now c.args.track in
    let buffer = c.open_whole.new.buffer in
    let count = c.in-Whole.count in
    let full = c.open_whole.ensures.len ∙ c.requires.buffer in
    let flux = c.read_held.new.stream.flux in
    let why = c.in-PassedOver.why in
    finds-file c.args.dump.now c.args.track (shelf_at g.H.Source g.H.Shelf c.args.shelf.now) (shelf_at g.H.Source g.H.Shelf c.open_whole.new.shelf) c.requires.file (seen_next (PassedNext why) flux)
    (PassedOver why) c.in-PassedOver.ensures.not_failed c.in-Whole.ensures.told c.in-Whole.ensures.counts
    (λ files known. whole-is buffer count full (file_at files path) (PassedNext why) flux (c.in-Whole.ensures.is files known) c.in-PassedOver.ensures.seen) refl
    (λ files known. passed-sized (in_file (file_at files path)) why)
