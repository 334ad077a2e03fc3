use Rattle.std.proofs.Common.{arith}
use Rattle.dump_identity.proofs.Rooms.{appended, numbered-all, numbered-more, numbered-none}
use Rattle.dump_identity.proofs.room.push_numbered.Goals as goal

pub loop-number-init : goal.loop-number-init
loop-number-init c = record {
  pushed = numbered-none c.args.disks.now.items c.args.told.now;
  room = omega (arith, c.requires.room);
  spare = omega (arith, c.requires.few);
}

pub loop-number-preserved : goal.loop-number-preserved
loop-number-preserved c =
    let at = c.loop-number in record {
      pushed = numbered-more c.args.disks.now.items c.args.told.now at.number _ c.loop-number-test.true at.disks.items c.push_reserved.new.self.items c.begin.result at.invariant.pushed
          c.begin.ensures c.push_reserved.ensures.items;
      room = omega (
        arith,
        appended at.disks.items c.push_reserved.new.self.items c.begin.result c.push_reserved.ensures.items,
        c.push_reserved.ensures.capacity,
        at.invariant.room,
      );
      spare = omega (arith, appended c.take_last-room.new.self.items at.spare.items _ c.take_last-room.ensures.items, at.invariant.spare);
    }

pub returns : goal.returns
returns c = numbered-all c.args.disks.now.items c.args.told.now c.loop-number.number c.loop-number-test.false c.loop-number.disks.items c.loop-number.invariant.pushed
