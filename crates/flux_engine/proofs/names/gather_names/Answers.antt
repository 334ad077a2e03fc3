use Rattle.flux_engine.proofs.NameWalks.{names_all, names_start, names_step}
use Rattle.flux_engine.proofs.names.gather_names.Goals as goal

pub loop-cell-init : goal.loop-cell-init
loop-cell-init g c = record {
  walk = names_start (g.R.Recording.named_at c.args.recording.now) (g.R.Recording.whole_data_of c.args.recording.now)
      c.args.flux.now.times c.args.flux.now.indexes c.args.cells.now.cells c.args.capture c.args.clock (g.met.R.Recording.one_name c.args.recording.now) c.args.others.now;
}

pub loop-cell-preserved : goal.loop-cell-preserved
loop-cell-preserved g c = record {
  walk = names_step (g.R.Recording.named_at c.args.recording.now) (g.R.Recording.whole_data_of c.args.recording.now)
      c.args.flux.now.times c.args.flux.now.indexes c.args.cells.now.cells c.args.capture c.args.clock (g.met.R.Recording.one_name c.args.recording.now)
      c.loop-cell.from c.loop-cell.passed c.in-Some.cell c.ones_between-passed.result c.in-Some.name c.has_data-whole.result c.place_of.result
      c.args.others.now c.loop-cell.others c.note.new.self
      c.loop-cell.invariant.walk c.in-Some.ensures.first c.in-Some.ensures.within c.ones_between-passed.ensures.walk
      c.place_of.ensures c.has_data-whole.ensures c.note.ensures.noted c.note.ensures.count c.requires.cells.few;
}

pub returns : goal.returns
returns g c =
    names_all (g.R.Recording.named_at c.args.recording.now) (g.R.Recording.whole_data_of c.args.recording.now)
    c.args.flux.now.times c.args.flux.now.indexes c.args.cells.now.cells c.args.capture c.args.clock (g.met.R.Recording.one_name c.args.recording.now)
    c.loop-cell.from c.loop-cell.passed c.args.others.now c.loop-cell.others c.loop-cell.invariant.walk c.in_default.ensures.first c.requires.cells.few
