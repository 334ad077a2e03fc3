use Rattle.std.proofs.Common.{Bool, List, length, ap, arith}
use Rattle.dump_identity.proofs.Held.{held-next, many-more}
use Rattle.dump_identity.proofs.reading.find_files.Goals as goal

pub loop-number-init : goal.loop-number-init
loop-number-init g c = record {
  many = ap (λ (hs : List Bool). length hs) c.requires.none;
  room = c.requires.room;
  each = λ k d b low. absurd (omega (arith, low));
}

pub loop-number-preserved : goal.loop-number-preserved
loop-number-preserved g c =
    let so_far = c.loop-number.invariant in
    let n = c.loop-number.number in
    let held = c.loop-number.held.items in
    let here = c.has_files.result in
    let items = c.push_reserved.ensures.items in
    record {
      many = many-more held c.push_reserved.new.self.items here items n so_far.many;
      room = (let capacity = c.push_reserved.ensures.capacity in let room = so_far.room in omega (arith, capacity, room));
      each = rw items (held-next c.args.dump.now (g.H.Shelf.files c.args.shelf.now) c.args.disks.now held n so_far.many here so_far.each c.index-disks-number.result c.loop-number-test.true c.index-disks-number.is
          c.has_files.ensures);
    }
