use Rattle.std.proofs.Common.{◌≡◌, ◌-◌, length, take}
use Rattle.cell_bits.specs.Ones.{ones}
use Rattle.dump_numbers.specs.OwnNames.{other_head}
use Rattle.dump_numbers.proofs.Walks.{IsWalk}
use Rattle.dump_numbers.proofs.names.track_names.Given as goal

abbrev pub invariant-loop-place : goal.invariant-loop-place
invariant-loop-place l = record {
  own : IsWalk l.rate l.own l.flux.times l.flux.indexes l.cells.cells l.from l.names;
  other : IsWalk l.rate (other_head l.own) l.flux.times l.flux.indexes l.cells.cells l.from l.others;
  passed : l.passed ≡ ones (take l.from l.cells.cells);
  full : (length l.names ≡ 1024) × (length l.others ≡ 1024);
}

abbrev pub decreases-loop-place : goal.decreases-loop-place
decreases-loop-place l = length l.cells.cells - l.from
