use Rattle.std.proofs.Common.{sym, subst}
use Rattle.ibm_disks.specs.declared.sector_size.SectorSize.TheVariants.{Bytes128}
use Rattle.ibm_walks.specs.Rates.{format_with_one}
use Rattle.ibm_walks.specs.inside.Walked.{HasNotedOne}
use Rattle.ibm_walks.proofs.Walks.{IsNameWalk, name_end, name_past, name_start, name_step}
use Rattle.ibm_walks.proofs.walk.note_in_cells.Goals.{in-Some-sector_name, in_default-sector_name}
use Rattle.ibm_walks.proofs.walk.note_in_cells.Goals as goal

pub loop-place-init : goal.loop-place-init
loop-place-init c = name_start c.args.rate c.args.dump c.args.flux.now.times c.args.flux.now.indexes c.args.cells.now.cells c.args.book.now

pub loop-place-preserved : goal.loop-place-preserved
loop-place-preserved c =
    elim c.match-sector_name.branch [
      | in-Some-sector_name w ↦
          name_step c.args.rate c.args.dump c.args.flux.now.times c.args.flux.now.indexes c.args.cells.now.cells
          c.loop-place.from c.loop-place.passed c.in-Some.place c.ones_between-passed.result c.in-Some.name c.args.book.now c.loop-place.book c.match-sector_name.book
          c.loop-place.invariant (rw c.recording_with_one-recording.ensures at c.in-Some.ensures.first) c.in-Some.ensures.within c.ones_between-passed.ensures.walk
          (subst (HasNotedOne c.args.rate c.args.dump c.args.flux.now.times c.args.flux.now.indexes c.args.cells.now.cells c.in-Some.place c.loop-place.book) (sym w.book-is)
          w.note_found.ensures)
      | in_default-sector_name w ↦
          name_past c.args.rate c.args.dump c.args.flux.now.times c.args.flux.now.indexes c.args.cells.now.cells
          (c.headers_have_names.ensures.told (format_with_one c.args.rate Bytes128) (record { cylinder = 0; head = 0 })).one_name
          c.loop-place.from c.loop-place.passed c.in-Some.place c.ones_between-passed.result c.in-Some.name c.args.book.now c.match-sector_name.book
          (subst (IsNameWalk c.args.rate c.args.dump c.args.flux.now.times c.args.flux.now.indexes c.args.cells.now.cells c.loop-place.from c.loop-place.passed c.args.book.now) (sym w.book-is)
          c.loop-place.invariant)
          (rw c.recording_with_one-recording.ensures at c.in-Some.ensures.first) c.in-Some.ensures.within c.ones_between-passed.ensures.walk
          w.in_default-sector_name.ensures.none
    ]

pub returns : goal.returns
returns c =
    name_end c.args.rate c.args.dump c.args.flux.now.times c.args.flux.now.indexes c.args.cells.now.cells c.loop-place.from c.loop-place.passed c.args.book.now c.loop-place.book
    c.loop-place.invariant (rw c.recording_with_one-recording.ensures at c.in_default.ensures.first)
