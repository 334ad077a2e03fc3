use Rattle.std.proofs.Common.{◌≡◌, ◌≤◌, ◌<◌, ℕ, get_or, length}
use Rattle.dump_tallies.specs.Tallies.{NotesFile, TalliedDisk}
use Rattle.dump_tallies.proofs.noting.note_file.Given as goal

abbrev pub invariant-loop-next : goal.invariant-loop-next
invariant-loop-next l = record {
  many : length l.disks ≡ length l.initial.disks;
  noted : (k : ℕ) (d : TalliedDisk) → k < l.next → NotesFile (get_or l.initial.disks k d) (get_or l.disks k d) l.file l.initial.stream;
  behind : (k : ℕ) (d : TalliedDisk) → l.next ≤ k → get_or l.disks k d ≡ get_or l.initial.disks k d;
  stream : l.stream ≡ l.initial.stream;
}
