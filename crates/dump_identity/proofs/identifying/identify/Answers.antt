use Rattle.std.proofs.Common.{◌≡◌, false, length, vec_len, ap, arith, refl}
use Rattle.std.proofs.lemmas.Grind.{common_steps}
use Rattle.std.specs.Prelude.{not}
use Rattle.flux_base.specs.lemmas.Blaming.{CountsBy-image, CountsBy-none}
use Rattle.dump_reading.specs.Files.{shelf_at}
use Rattle.dump_identity.specs.Outcomes.{came_for}
use Rattle.dump_identity.proofs.Saying.{all-noted, all-said, keeps-same, line-cut, reach-none, reach-some}
use Rattle.dump_identity.proofs.identifying.identify.Goals as goal

pub tell_best-requires-clause-noted : goal.tell_best-requires-clause-noted
tell_best-requires-clause-noted g c =
    let tried = c.try_disks-tried.result in
    all-noted c.args.dump.now (shelf_at g.H.Source g.H.Shelf c.args.shelf.now) (shelf_at g.H.Source g.H.Shelf c.try_disks-tried.new.shelf)
    tried.passed.items tried.again.items tried.disks.items tried.held.items tried.foreign.items c.try_disks-tried.ensures.tried

pub returns-then-is_none-clause-says : goal.returns-then-is_none-clause-says
returns-then-is_none-clause-says g c = (
  refl,
  reach-none (g.H.Shelf.files c.args.shelf.now) c.args.dump.now c.bytes.result.now c.bytes.ensures c.find_reach.result c.is_none.result c.is_none.ensures c.if-is_none.true c.find_reach.ensures.told,
  refl,
  keeps-same (g.W.Sink.written c.args.lines.now),
)

pub returns-in-Ok-clause-says : goal.returns-in-Ok-clause-says
returns-in-Ok-clause-says g c =
    let tried = c.try_disks-tried.result in
    let have = c.try_disks-tried.ensures.tried in
    let whole : length tried.foreign.items ≡ vec_len tried.foreign = grind (arith, common_steps) in
    all-said c.args.dump.now (shelf_at g.H.Source g.H.Shelf c.args.shelf.now) (shelf_at g.H.Source g.H.Shelf c.try_disks-tried.new.shelf)
    tried.passed.items tried.again.items tried.disks.items tried.held.items tried.foreign.items have (g.W.Sink.written c.args.lines.now) (g.W.Sink.written c.tell_best.new.lines)
    (reach-some (g.H.Shelf.files c.args.shelf.now) c.args.dump.now c.bytes.result.now c.bytes.ensures c.find_reach.result c.is_none.result c.is_none.ensures c.if-is_none.false c.find_reach.ensures.told)
    c.in-Ok.best (c.in-Ok.ensures.ok c.args.dump.now (g.H.Shelf.files c.args.shelf.now) (came_for have.files) have.known) c.has_failed.result _ (vec_len tried.foreign) c.has_failed.ensures whole (ap not c.is_empty.ensures)

pub returns-clause-says : goal.returns-clause-says
returns-clause-says g c =
    let tried = c.try_disks-tried.result in
    let have = c.try_disks-tried.ensures.tried in
    line-cut c.args.dump.now (shelf_at g.H.Source g.H.Shelf c.args.shelf.now) (shelf_at g.H.Source g.H.Shelf c.try_disks-tried.new.shelf)
    tried.passed.items tried.again.items tried.disks.items tried.held.items tried.foreign.items have (g.W.Sink.written c.args.lines.now) (g.W.Sink.written c.tell_best.new.lines)
    (c.in-Err.ensures.err c.args.dump.now (g.H.Shelf.files c.args.shelf.now) (came_for have.files) have.known)

pub returns-then-is_none-clause-blames : goal.returns-then-is_none-clause-blames
returns-then-is_none-clause-blames g c = CountsBy-none _

pub returns-in-Ok-clause-blames : goal.returns-in-Ok-clause-blames
returns-in-Ok-clause-blames g c = CountsBy-image _ _ false c.in-Ok.ensures.counts
