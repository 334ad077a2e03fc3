use Rattle.std.proofs.Common.{◌≡◌, ◌<◌, ◌≤◌, ℕ, Bool, get_or, length}
use Rattle.std.specs.Vec.{vec_capacity}
use Rattle.dump_tallies.specs.Tallies.{TalliedDisk}
use Rattle.dump_identity.specs.inside.Outcomes.{IsHeld}
use Rattle.dump_identity.proofs.reading.find_files.Given as goal

abbrev pub invariant-loop-number : goal.invariant-loop-number
invariant-loop-number g l = record {
  many : length l.held.items ≡ l.number;
  room : length l.disks ≤ vec_capacity l.held;
  each : (k : ℕ) (d : TalliedDisk) (b : Bool) → k < l.number → IsHeld l.dump (g.H.Shelf.files l.shelf) (get_or l.disks k d) (get_or l.held.items k b);
}
