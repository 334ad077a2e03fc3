use Rattle.std.proofs.Common.{refl, ◌∙◌}
use Rattle.flux_engine.proofs.OtherWalks.{controller_others, controller_readings, controller_start, controller_step}
use Rattle.flux_engine.proofs.gathering.gather_as_controller.Goals as goal

pub loop-cell-init : goal.loop-cell-init
loop-cell-init g c = record {
  walk = controller_start (g.R.Recording.named_at c.args.recording.now) (g.R.Recording.header_at c.args.recording.now c.args.track) (g.R.Recording.data_at c.args.recording.now) (g.R.Recording.whole_data_of c.args.recording.now)
      c.args.flux.now.times c.args.flux.now.indexes c.args.cells.now.cells c.args.capture c.args.clock
      (c.data_are_read.ensures.of_header c.args.recording.now) (c.data_are_read.ensures.of_track c.args.recording.now c.args.track c.args.cells.now.cells)
      (g.met.R.Recording.one_header c.args.recording.now c.args.track) (g.met.R.Recording.one_name c.args.recording.now)
      c.args.gathered.now.book c.args.gathered.now.others;
  kept = refl;
}

pub loop-cell-preserved : goal.loop-cell-preserved
loop-cell-preserved g c = record {
  walk = controller_step (g.R.Recording.named_at c.args.recording.now) (g.R.Recording.header_at c.args.recording.now c.args.track) (g.R.Recording.data_at c.args.recording.now) (g.R.Recording.whole_data_of c.args.recording.now)
      c.args.flux.now.times c.args.flux.now.indexes c.args.cells.now.cells c.args.capture c.args.clock
      (c.data_are_read.ensures.of_header c.args.recording.now) (c.data_are_read.ensures.of_track c.args.recording.now c.args.track c.args.cells.now.cells)
      (g.met.R.Recording.one_header c.args.recording.now c.args.track) (g.met.R.Recording.one_name c.args.recording.now)
      c.loop-cell.from c.loop-cell.passed c.in-Some.cell c.ones_between-passed.result c.in-Some.found
      c.place_of-place.result c.args.gathered.now.book c.loop-cell.gathered.book c.note_found.new.gathered.book
      c.args.gathered.now.others c.loop-cell.gathered.others c.note_found.new.gathered.others
      c.loop-cell.invariant.walk c.in-Some.ensures.first c.in-Some.ensures.within c.ones_between-passed.ensures.walk
      c.place_of-place.ensures c.note_found.ensures.noted c.requires.cells.few;
  kept = c.note_found.ensures.kept ∙ c.loop-cell.invariant.kept;
}

pub returns-clause-readings : goal.returns-clause-readings
returns-clause-readings g c =
    controller_readings (g.R.Recording.named_at c.args.recording.now) (g.R.Recording.header_at c.args.recording.now c.args.track) (g.R.Recording.data_at c.args.recording.now) (g.R.Recording.whole_data_of c.args.recording.now)
    c.args.flux.now.times c.args.flux.now.indexes c.args.cells.now.cells c.args.capture c.args.clock
    (c.data_are_read.ensures.of_header c.args.recording.now) (c.data_are_read.ensures.of_track c.args.recording.now c.args.track c.args.cells.now.cells)
    (g.met.R.Recording.one_header c.args.recording.now c.args.track) (g.met.R.Recording.one_name c.args.recording.now)
    c.loop-cell.from c.loop-cell.passed c.args.gathered.now.book c.loop-cell.gathered.book c.args.gathered.now.others c.loop-cell.gathered.others
    c.loop-cell.invariant.walk c.in_default.ensures.first c.requires.cells.few

pub returns-clause-others : goal.returns-clause-others
returns-clause-others g c =
    controller_others (g.R.Recording.named_at c.args.recording.now) (g.R.Recording.header_at c.args.recording.now c.args.track) (g.R.Recording.data_at c.args.recording.now) (g.R.Recording.whole_data_of c.args.recording.now)
    c.args.flux.now.times c.args.flux.now.indexes c.args.cells.now.cells c.args.capture c.args.clock
    (c.data_are_read.ensures.of_header c.args.recording.now) (c.data_are_read.ensures.of_track c.args.recording.now c.args.track c.args.cells.now.cells)
    (g.met.R.Recording.one_header c.args.recording.now c.args.track) (g.met.R.Recording.one_name c.args.recording.now)
    c.loop-cell.from c.loop-cell.passed c.args.gathered.now.book c.loop-cell.gathered.book c.args.gathered.now.others c.loop-cell.gathered.others
    c.loop-cell.invariant.walk c.in_default.ensures.first c.requires.cells.few
