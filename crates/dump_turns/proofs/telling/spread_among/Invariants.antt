use Rattle.std.proofs.Common.{◌≡◌, ◌≤◌, length, take}
use Rattle.std.specs.Prelude.{All}
use Rattle.std.specs.Vec.{vec_capacity}
use Rattle.dump_turns.specs.Files.{means_in}
use Rattle.dump_turns.proofs.Means.{IsSmallMean}
use Rattle.dump_turns.proofs.telling.spread_among.Given as goal

abbrev pub invariant-loop-number : goal.invariant-loop-number
invariant-loop-number l = record {
  are : l.means.items ≡ means_in (take l.number l.founds);
  many : length l.means.items ≤ l.number;
  small : All IsSmallMean l.means.items;
  room : 198 ≤ vec_capacity l.means;
}
