use Rattle.std.proofs.Common.{◌≡◌, ◌≤◌, ◌+◌, ◌++◌, length, map, take}
use Rattle.std.specs.Vec.{vec_capacity}
use Rattle.dump_identity.specs.Candidates.{by_numbers}
use Rattle.dump_identity.specs.Trials.{trial_of}
use Rattle.dump_identity.proofs.room.push_numbered.Given as goal

abbrev pub invariant-loop-number : goal.invariant-loop-number
invariant-loop-number l = record {
  pushed : l.disks.items ≡ l.initial.disks.items ++ map trial_of (map by_numbers (take l.number l.told));
  room : length l.disks.items + length l.told ≤ vec_capacity l.disks + l.number;
  spare : length l.told ≤ length l.spare.items + l.number;
}
