use Rattle.std.proofs.Common.{◌≡◌, ◌++◌, map, take, drop}
use Rattle.sector_copies.specs.inside.Copies.{is_kept, with_reading}
use Rattle.sector_copies.proofs.copies.count_reading.Given as goal

abbrev pub invariant-loop-copy : goal.invariant-loop-copy
invariant-loop-copy l = record {
  counted : l.copies ≡ map (with_reading l.bytes) (take l.copy-index l.initial.copies) ++ drop l.copy-index l.initial.copies;
  known_is : l.known ≡ is_kept l.bytes (take l.copy-index l.initial.copies);
}
