use Rattle.dump_numbers.proofs.Noting.{even-none, file-none}
use Rattle.dump_numbers.proofs.room.NumbersRoom.reserve.Goals as goal

pub invariant_of-result : goal.invariant_of-result
invariant_of-result c = (
  even-none c.in_ok-reserve.field-0 c.in_ok-reserve.ensures,
  (c.in_ok-with_capacity.ensures.items, c.in_ok-with_capacity.ensures.capacity),
  (c.in_ok-with_capacity-2.ensures.items, c.in_ok-with_capacity-2.ensures.capacity),
)

pub returns : goal.returns
returns c = file-none c.in_ok-reserve.field-0 c.in_ok-reserve.ensures
