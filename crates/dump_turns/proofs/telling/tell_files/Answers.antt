use Rattle.std.proofs.Common.{◌≡◌, ◌+◌, ◌∙◌, ◌∷◌, [], length, sym, ap, arith, length-append}
use Rattle.std.proofs.lemmas.List.Elements.{All-push}
use Rattle.std.proofs.KnownBytes.{Appends-nil}
use Rattle.flux_base.specs.World.{sink_counts}
use Rattle.flux_base.specs.lemmas.Counting.{Counts-none, Counts-then}
use Rattle.dump_reading.specs.Files.{shelf_at}
use Rattle.dump_turns.specs.inside.Told.{IsBoundedFound}
use Rattle.dump_turns.proofs.Founds.{found-more, line-cut, lines-more, none-found}
use Rattle.dump_turns.proofs.telling.tell_files.Goals as goal

pub loop-number-init : goal.loop-number-init
loop-number-init g c = record {
  found = rw c.clear.ensures.items (none-found c.args.dump.now c.args.reach (shelf_at g.H.Source g.H.Shelf c.args.shelf.now));
  many = ap length c.clear.ensures.items;
  room = (let room = c.requires.room in let capacity = c.clear.ensures.capacity in omega (arith, room, capacity));
  bounded = rw c.clear.ensures.items (λ k d below. absurd (omega (arith, below)));
  buffer = c.requires.buffer;
  grew = rw c.clear.ensures.items (Appends-nil (g.W.Sink.written c.args.lines.now));
  counts = Counts-none (sink_counts g.W.Sink c.args.lines.now);
}

pub loop-number-preserved : goal.loop-number-preserved
loop-number-preserved g c =
    let so_far = c.loop-number.invariant in
    let n = c.loop-number.number in
    let founds = c.loop-number.founds.items in
    let found = c.find_one-found.result in
    let items = c.push_reserved.ensures.items in
    let long : length c.push_reserved.new.self.items ≡ length founds + 1 = ap length items ∙ length-append founds (found ∷ []) in
    let many = so_far.many in record {
      found = rw items (found-more c.args.dump.now c.args.reach (shelf_at g.H.Source g.H.Shelf c.args.shelf.now) (shelf_at g.H.Source g.H.Shelf c.loop-number.shelf)
          (shelf_at g.H.Source g.H.Shelf c.find_one-found.new.shelf) founds found n c.bytes.result.now c.track-track.result many c.bytes.ensures c.track-track.ensures so_far.found
          c.find_one-found.ensures.found);
      many = omega (arith, long, many);
      room = (let capacity = c.push_reserved.ensures.capacity in let room = so_far.room in omega (arith, capacity, room));
      bounded = rw items (All-push IsBoundedFound founds found so_far.bounded c.find_one-found.ensures.bounded);
      buffer = c.find_one-found.ensures.len ∙ so_far.buffer;
      grew = rw items (lines-more c.args.reach founds found n c.track-track.result many c.track-track.ensures (g.W.Sink.written c.args.lines.now) (g.W.Sink.written c.loop-number.lines)
          (g.W.Sink.written c.write_found.new.lines) so_far.grew c.in-Ok.ensures.ok);
      counts = Counts-then _ so_far.counts c.in-Ok.ensures.counts;
    }

pub returns-in-Err : goal.returns-in-Err
returns-in-Err g c =
    let so_far = c.loop-number.invariant in
    let n = c.loop-number.number in
    let founds = c.loop-number.founds.items in
    let found = c.find_one-found.result in
    let items = c.push_reserved.ensures.items in
    let long : length c.push_reserved.new.self.items ≡ length founds + 1 = ap length items ∙ length-append founds (found ∷ []) in
    let many = so_far.many in
    let all = c.count-number-end.ensures in
    let below = c.loop-number-test.true in record {
      found = rw items (found-more c.args.dump.now c.args.reach (shelf_at g.H.Source g.H.Shelf c.args.shelf.now) (shelf_at g.H.Source g.H.Shelf c.loop-number.shelf)
          (shelf_at g.H.Source g.H.Shelf c.find_one-found.new.shelf) founds found n c.bytes.result.now c.track-track.result many c.bytes.ensures c.track-track.ensures so_far.found
          c.find_one-found.ensures.found);
      bounded = rw items (All-push IsBoundedFound founds found so_far.bounded c.find_one-found.ensures.bounded);
      written = record {
        before = founds;
        next = found;
        are = items;
        few = omega (arith, long, many, all, below);
        grew = line-cut c.args.reach founds found n c.track-track.result many c.track-track.ensures (g.W.Sink.written c.args.lines.now) (g.W.Sink.written c.loop-number.lines)
            (g.W.Sink.written c.write_found.new.lines) so_far.grew c.in-Err.ensures.err;
      };
      counts = Counts-then _ so_far.counts c.in-Err.ensures.counts;
      buffer = c.find_one-found.ensures.len ∙ so_far.buffer ∙ sym c.requires.buffer;
      room = (let capacity = c.push_reserved.ensures.capacity in let room = so_far.room in omega (arith, capacity, room));
    }
