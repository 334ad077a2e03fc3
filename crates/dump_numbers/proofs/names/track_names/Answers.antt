use Rattle.std.proofs.Common.{◌+◌, ◌∙◌, refl, arith}
use Rattle.ibm_disks.specs.declared.sector_size.SectorSize.TheVariants.{Bytes128}
use Rattle.dump_numbers.specs.OwnNames.{other_head}
use Rattle.dump_numbers.specs.Rates.{format_with_one}
use Rattle.dump_numbers.proofs.Turns.{ones_few, ones_on}
use Rattle.dump_numbers.proofs.Walks.{walk_end, walk_start, walk_step}
use Rattle.dump_numbers.proofs.names.track_names.Goals as goal

pub loop-place-init : goal.loop-place-init
loop-place-init c = record {
  own = walk_start c.args.rate c.args.own c.args.flux.now.times c.args.flux.now.indexes c.args.cells.now.cells c.empty-names.result c.empty-names.ensures.has;
  other = walk_start c.args.rate (other_head c.args.own) c.args.flux.now.times c.args.flux.now.indexes c.args.cells.now.cells c.empty-others.result c.empty-others.ensures.has;
  passed = refl;
  full = (c.empty-names.ensures.full, c.empty-others.ensures.full);
}

pub overflow_add-passed : goal.overflow_add-passed
overflow_add-passed c =
    let walk = ones_on c.args.cells.now.cells c.loop-place.from (c.in-Some.place + 1) c.loop-place.passed c.ones_between-passed.result c.loop-place.invariant.passed c.ones_between-passed.ensures.walk in
    let most = ones_few c.args.cells.now.cells (c.in-Some.place + 1) in
    let few = c.requires.cells.few in
    omega (arith, walk, most, few)

pub note_name-requires : goal.note_name-requires
note_name-requires c = record {
  turns = c.requires.turns;
  cells = c.requires.cells;
  ones_to = ones_on c.args.cells.now.cells c.loop-place.from (c.in-Some.place + 1) c.loop-place.passed c.ones_between-passed.result c.loop-place.invariant.passed c.ones_between-passed.ensures.walk;
  within = c.in-Some.ensures.within;
}

pub note_name-requires-in-Some : goal.note_name-requires-in-Some
note_name-requires-in-Some c = record {
  turns = c.requires.turns;
  cells = c.requires.cells;
  ones_to = ones_on c.args.cells.now.cells c.loop-place.from (c.in-Some.place + 1) c.loop-place.passed c.ones_between-passed.result c.loop-place.invariant.passed c.ones_between-passed.ensures.walk;
  within = c.in-Some.ensures.within;
}

pub loop-place-preserved : goal.loop-place-preserved
loop-place-preserved c =
    let one = (c.headers_have_names.ensures.told (format_with_one c.args.rate Bytes128) (record { cylinder = 0; head = 0 })).one_name in
    let first = rw c.recording_with_one-recording.ensures at c.in-Some.ensures.first in
    record {
      own = walk_step c.args.rate c.args.own c.args.flux.now.times c.args.flux.now.indexes c.args.cells.now.cells one c.loop-place.from c.in-Some.place c.in-Some.name
          c.loop-place.names c.note_name.new.names c.loop-place.invariant.own first c.note_name.ensures.adds;
      other = walk_step c.args.rate (other_head c.args.own) c.args.flux.now.times c.args.flux.now.indexes c.args.cells.now.cells one c.loop-place.from c.in-Some.place c.in-Some.name
          c.loop-place.others c.note_name-in-Some.new.names c.loop-place.invariant.other first (rw c.saturating_sub.ensures at c.note_name-in-Some.ensures.adds);
      passed = ones_on c.args.cells.now.cells c.loop-place.from (c.in-Some.place + 1) c.loop-place.passed c.ones_between-passed.result c.loop-place.invariant.passed c.ones_between-passed.ensures.walk;
      full = (c.note_name.ensures.full ∙ c.loop-place.invariant.full.0, c.note_name-in-Some.ensures.full ∙ c.loop-place.invariant.full.1);
    }

pub returns-clause-own : goal.returns-clause-own
returns-clause-own c =
    walk_end c.args.rate c.args.own c.args.flux.now.times c.args.flux.now.indexes c.args.cells.now.cells c.loop-place.from c.loop-place.names c.loop-place.invariant.own
    (rw c.recording_with_one-recording.ensures at c.in_default.ensures.first)

pub returns-clause-other : goal.returns-clause-other
returns-clause-other c =
    walk_end c.args.rate (other_head c.args.own) c.args.flux.now.times c.args.flux.now.indexes c.args.cells.now.cells c.loop-place.from c.loop-place.others c.loop-place.invariant.other
    (rw c.recording_with_one-recording.ensures at c.in_default.ensures.first)
