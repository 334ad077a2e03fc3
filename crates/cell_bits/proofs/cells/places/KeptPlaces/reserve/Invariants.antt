use Rattle.std.proofs.Common.{◌≡◌, ◌≤◌, All, length}
use Rattle.std.specs.Vec.{vec_capacity}
use Rattle.cell_bits.specs.inside.Kept.{IsRoomy}
use Rattle.cell_bits.proofs.cells.places.KeptPlaces.reserve.Given as goal

abbrev pub invariant-loop-word : goal.invariant-loop-word
invariant-loop-word l = record {
  many : length l.lists.items ≡ l._word;
  room : l.words ≤ vec_capacity l.lists;
  roomy : All IsRoomy l.lists.items;
}
