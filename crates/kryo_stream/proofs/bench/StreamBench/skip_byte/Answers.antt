use Rattle.std.proofs.Common.{◌+◌, arith, subst, sym}
use Rattle.kryo_stream.specs.Bench.{AreSkipped}
use Rattle.kryo_stream.proofs.Ends.{AreSkipped-skip, adds-skip, ends-count, room_is}
use Rattle.kryo_stream.proofs.bench.StreamBench.skip_byte.Goals as goal

pub push_reserved-requires : goal.push_reserved-requires
push_reserved-requires c =
    let room = rw (← c.self.view_is) at c.requires.room in
    omega (
      arith,
      room,
      c.self.inside.skipped.ok.0,
      ends-count 0 c.self.inside.counted c.self.inside.skipped.items c.self.invariant.0,
      room_is c.self.inside.counted _ c.self.inside.skipped.items c.self.invariant.0 c.self.invariant.1,
    )

pub invariant_of-self : goal.invariant_of-self
invariant_of-self c =
    let room = rw (← c.self.view_is) at c.requires.room in (
      subst (λ items. AreSkipped 0 items (c.self.inside.counted + 1)) (sym c.push_reserved.ensures.items)
          (AreSkipped-skip 0 c.self.inside.counted c.self.inside.skipped.items c.self.invariant.0),
      omega (
        arith,
        room,
        c.push_reserved.ensures.capacity,
        room_is c.self.inside.counted _ c.self.inside.skipped.items c.self.invariant.0 c.self.invariant.1,
      ),
    )

pub returns : goal.returns
returns c =
    rw (← c.self.view_is)
    (adds-skip c.self.inside.counted _ _ c.self.inside.skipped.items _ _ _ _ _ c.self.invariant.0 c.push_reserved.ensures.items
    c.push_reserved.ensures.capacity)
