use Rattle.std.proofs.Common.{None, Some, inl, inr, refl}
use Rattle.std.proofs.KnownBytes.{Keeps-refl}
use Rattle.dump_reading.specs.Files.{shelf_at}
use Rattle.dump_turns.proofs.Tellings.{all-told, end-cut, file-cut, reach-told}
use Rattle.dump_turns.proofs.telling.tell_turns.Goals as goal

pub returns-in_default-clause-says : goal.returns-in_default-clause-says
returns-in_default-clause-says g c = (
  refl,
  reach-told (g.H.Shelf.files c.args.shelf.now) c.args.dump.now None (rw c.bytes.ensures at c.in_default.ensures.told),
  refl,
  Keeps-refl (g.W.Sink.written c.args.lines.now),
)

pub returns-in-Err-clause-says : goal.returns-in-Err-clause-says
returns-in-Err-clause-says g c =
    let is = reach-told (g.H.Shelf.files c.args.shelf.now) c.args.dump.now (Some c.in-Some.reach) (rw c.bytes.ensures at c.in-Some.ensures.told) in
    inl (file-cut c.args.dump.now (shelf_at g.H.Source g.H.Shelf c.args.shelf.now) (shelf_at g.H.Source g.H.Shelf c.tell_files.new.shelf) c.in-Some.reach is c.in-Some.ensures.bound
    c.tell_files.new.founds.items c.in-Err.ensures.found (g.W.Sink.written c.args.lines.now) (g.W.Sink.written c.tell_files.new.lines)
    (g.W.Sink.written c.tell_files.new.lines) c.in-Err.ensures.written)

pub returns-in-Ok-tell_end-clause-says : goal.returns-in-Ok-tell_end-clause-says
returns-in-Ok-tell_end-clause-says g c =
    let is = reach-told (g.H.Shelf.files c.args.shelf.now) c.args.dump.now (Some c.in-Some.reach) (rw c.bytes.ensures at c.in-Some.ensures.told) in
    all-told c.args.dump.now (shelf_at g.H.Source g.H.Shelf c.args.shelf.now) (shelf_at g.H.Source g.H.Shelf c.tell_files.new.shelf) c.in-Some.reach is c.in-Some.ensures.bound
    c.tell_files.new.founds.items c.in-Ok.ensures.found (g.W.Sink.written c.args.lines.now) (g.W.Sink.written c.tell_files.new.lines) (g.W.Sink.written c.tell_end.new.lines)
    c.in-Ok.ensures.written c.spread_among-spread.result (rw c.deref.ensures.value at c.spread_among-spread.ensures.is) c.totals.result
    (rw c.deref-in-Ok-tell_end.ensures.value at c.totals.ensures) (rw c.deref-2.ensures.value at c.in-Ok-tell_end.ensures.ok)

pub returns-clause-says : goal.returns-clause-says
returns-clause-says g c =
    let is = reach-told (g.H.Shelf.files c.args.shelf.now) c.args.dump.now (Some c.in-Some.reach) (rw c.bytes.ensures at c.in-Some.ensures.told) in
    inr (end-cut c.args.dump.now (shelf_at g.H.Source g.H.Shelf c.args.shelf.now) (shelf_at g.H.Source g.H.Shelf c.tell_files.new.shelf) c.in-Some.reach is c.in-Some.ensures.bound
    c.tell_files.new.founds.items c.in-Ok.ensures.found (g.W.Sink.written c.args.lines.now) (g.W.Sink.written c.tell_files.new.lines) (g.W.Sink.written c.tell_end.new.lines)
    c.in-Ok.ensures.written c.spread_among-spread.result (rw c.deref.ensures.value at c.spread_among-spread.ensures.is) (rw c.deref-2.ensures.value at c.in-Err-tell_end.ensures.err))
